-- The image of an example, by computation.
use Rattle.std.proofs.Common.{◌≡◌, Some, refl}
use Rattle.mac_asm.specs.Assembly.{IsAssembly, all_words_of, words_from, statement_words, literal_words}
use Rattle.mac_asm.specs.Assembly.{all_statement_words, all_literal_words, words_at, start_at}
use Rattle.asm_laws.specs.Example.{example_source, example_image}
use Rattle.asm_laws.proofs.Found.{found_image}
use Rattle.mac_layout.specs.Addresses.{are_apart, count_of, size_of, address_behind, located, address_after, addresses_from, placed, are_settled}
use Rattle.asm_laws.specs.Found.{labels_from_above, image_under, image_of}
use Rattle.mac_asm.specs.Packing.{ascii_word, sixbit_word}
use Rattle.mac_layout.specs.Values.{value_of, residue_of, natural_of, is_known}
use Rattle.mac_asm.specs.Words.{fitted, operand_of, with_accumulator, with_operand, instruction_of, position_of}
use Rattle.mac_asm.specs.Words.{pointer_of, halves_of, iowd_of, text_word, words_of, are_known}
use Rattle.ka_isa.specs.Operations.{operations, calls, meanings, named_of, name_of}
use Rattle.mac_text.specs.Expressions.{word_term_at, marked_at, literal_at, term_at, sign_at, signed_at, next_term_at, expression_at, optional_at}
use Rattle.mac_text.specs.Keywords.{form_of}
use Rattle.mac_text.specs.Lines.{next_label_at, optional_statement_at, whole_statement_at, gives_words}
use Rattle.mac_text.specs.Lines.{literal_of, literals_of, line_of, lines_from, program_of}
use Rattle.mac_text.specs.Names.{symbol_of}
use Rattle.mac_text.specs.Numbers.{number_of}
use Rattle.mac_text.specs.Scan.{items_at}
use Rattle.mac_text.specs.Statements.{index_at, operand_at, operands_at, instruction_at, pair_at, next_expression_at, expressions_at}
use Rattle.mac_text.specs.Statements.{decimal_at, number_at, point_at, value_at, form_at, statement_at}
use Rattle.mac_text.specs.Texts.{text_at, behind_text, literal_len}

computed : image_of example_source ≡ Some example_image
unfolding all_words_of words_from statement_words literal_words all_statement_words all_literal_words words_at start_at are_apart
    labels_from_above image_under image_of ascii_word sixbit_word count_of size_of address_behind located address_after addresses_from placed
    are_settled value_of residue_of natural_of is_known fitted operand_of with_accumulator with_operand instruction_of position_of
    pointer_of halves_of iowd_of text_word words_of are_known operations calls meanings named_of name_of word_term_at marked_at
    literal_at term_at sign_at signed_at next_term_at expression_at optional_at form_of next_label_at optional_statement_at
    whole_statement_at gives_words literal_of literals_of line_of lines_from program_of symbol_of number_of items_at index_at
    operand_at operands_at instruction_at pair_at next_expression_at expressions_at decimal_at number_at point_at value_at form_at
    statement_at text_at behind_text literal_len
computed = refl

pub example_is_assembled : IsAssembly example_source example_image
example_is_assembled = found_image example_source example_image computed
