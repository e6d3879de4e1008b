-- What the examples leave, by computation.
use Rattle.std.proofs.Common.{◌≡◌, ◌&&◌, ℕ, ℤ, Bool, true, false, List, [], Option, Some, None, Result, Ok, Err, refl, ap, subst}
use Rattle.std.specs.Prelude.{nat_eq, IsPermutation}
use Rattle.std.specs.Cmp.Lexicographic.{pointwise}
use Rattle.std.proofs.lemmas.Bool.{and_parts, eqb-true}
use Rattle.std.proofs.lemmas.List.Sorted.{IsPermutation-refl}
use Rattle.ka_isa.specs.Operations.{operations, calls, meanings, named_of, name_of}
use Rattle.mac_text.specs.Names.{symbol_of}
use Rattle.mac_text.specs.Numbers.{number_of}
use Rattle.macro_values.specs.Values.{value_of}
use Rattle.macro_expressions.specs.declared.fault.Stop.{Stop}
use Rattle.macro_expressions.specs.Operations.{other_words, operation_of}
use Rattle.macro_expressions.specs.Values.{name_at, digits_at, plain_at, bracket_at, based_at, marked_at, bit_at, bits_behind}
use Rattle.macro_expressions.specs.Values.{statements_at, literal_at, term_at, unary_at, more_at, level_at, expression_at, optional_at}
use Rattle.macro_expansion.specs.Brackets.{closed_at, repeated}
use Rattle.macro_expansion.specs.Macros.{definition_at, dummies_at, uncommented, argument_from, arguments_at, completed, argument_in, filled, call_at}
use Rattle.macro_expansion.specs.Rounds.{parted, rounds_at}
use Rattle.macro_statements.specs.Forms.{form_names}
use Rattle.macro_statements.specs.Mentions.{mentions, defined_names}
use Rattle.macro_statements.specs.Words.{index_at, word_value_at, address_at, instruction_at, operation_words, value_words, single_at, inside_at, scope_with}
use Rattle.macro_meaning.specs.Meaning.{Walk, is_settled, meaning, read_through, walked, next_step, step, end_step, label_step, assignment_step}
use Rattle.macro_meaning.specs.Meaning.{number_step, repeat_step, define_step, call_step, early_value, early_word, sure_number, text_if}
use Rattle.macro_meaning.specs.Meaning.{named_step, unlabelled_step, opening_of, irp_step, is_plain_line}
use Rattle.meaning_laws.specs.Example.{Leaves, example_source, example_table, example_words}
use Rattle.meaning_laws.specs.Example.{rounds_source, rounds_table, rounds_words, stopped_source, stopped_words}
use Rattle.macro_meaning.proofs.Lists.{same_lists, same_pairs}

-- whether these words, this start and the values of a table are what is left
starts_at : ℕ → Option ℕ → Bool
starts_at start None = false
starts_at start (Some n) = nat_eq n start

same_entry : ℕ × ℕ → ℕ × ℕ → Bool
same_entry x y = nat_eq x.0 y.0 && nat_eq x.1 y.1

leaves : List (ℕ × ℤ) → List (ℕ × ℕ) → ℕ → Result Walk Stop → Bool
leaves table words start (Err stop) = false
leaves table words start (Ok w) = is_settled table w.defined && (pointwise same_entry w.words words && starts_at start w.start)

start_is : (start : ℕ) (found : Option ℕ) → starts_at start found ≡ true → found ≡ Some start
unfolding starts_at
start_is start None e = absurd (cc)
start_is start (Some n) e = ap Some (eqb-true n start e)

words_are : (words others : List (ℕ × ℕ)) → pointwise same_entry words others ≡ true → words ≡ others
unfolding same_entry
words_are words others e = same_lists same_entry same_pairs words others e

leaves_by : (table : List (ℕ × ℤ)) (pools : List ℤ) (source : List ℕ) (words : List (ℕ × ℕ)) (start : ℕ) (left : Result Walk Stop)
    → meaning table pools source ≡ left → leaves table words start left ≡ true → Leaves table pools source words start
unfolding leaves
leaves_by table pools source words start (Err stop) is e = absurd (cc)
leaves_by table pools source words start (Ok w) is e =
    let settled = and_parts (is_settled table w.defined) (pointwise same_entry w.words words && starts_at start w.start) e in
    let others = and_parts (pointwise same_entry w.words words) (starts_at start w.start) settled.1 in (
      w,
      is,
      record {
        settled = settled.0;
        same_words = subst (IsPermutation w.words) (words_are w.words words others.0) (IsPermutation-refl w.words);
        start_is = start_is start w.start others.1;
      },
    )

example_leaves_test : leaves example_table example_words 0o140 (meaning example_table [] example_source) ≡ true
unfolding operations calls meanings named_of name_of symbol_of number_of value_of other_words operation_of name_at digits_at plain_at
    bracket_at based_at marked_at bit_at bits_behind statements_at literal_at term_at unary_at more_at level_at expression_at optional_at
    closed_at repeated definition_at dummies_at uncommented argument_from arguments_at completed argument_in filled call_at parted rounds_at form_names mentions defined_names
    index_at word_value_at address_at instruction_at operation_words value_words single_at inside_at scope_with meaning read_through
    walked next_step step end_step label_step assignment_step number_step repeat_step define_step call_step
    early_value early_word sure_number text_if named_step unlabelled_step opening_of irp_step is_plain_line leaves starts_at same_entry
example_leaves_test = refl

pub example_leaves : Leaves example_table [] example_source example_words 0o140
example_leaves = leaves_by example_table [] example_source example_words 0o140 (meaning example_table [] example_source) refl example_leaves_test

rounds_leave_test : leaves rounds_table rounds_words 0o140 (meaning rounds_table [] rounds_source) ≡ true
unfolding operations calls meanings named_of name_of symbol_of number_of value_of other_words operation_of name_at digits_at plain_at
    bracket_at based_at marked_at bit_at bits_behind statements_at literal_at term_at unary_at more_at level_at expression_at optional_at
    closed_at repeated definition_at dummies_at uncommented argument_from arguments_at completed argument_in filled call_at parted rounds_at form_names mentions defined_names
    index_at word_value_at address_at instruction_at operation_words value_words single_at inside_at scope_with meaning read_through
    walked next_step step end_step label_step assignment_step number_step repeat_step define_step call_step
    early_value early_word sure_number text_if named_step unlabelled_step opening_of irp_step is_plain_line leaves starts_at same_entry
rounds_leave_test = refl

pub rounds_leave : Leaves rounds_table [] rounds_source rounds_words 0o140
rounds_leave = leaves_by rounds_table [] rounds_source rounds_words 0o140 (meaning rounds_table [] rounds_source) refl rounds_leave_test

stopped_leave_test : leaves [] stopped_words 0o140 (meaning [] [] stopped_source) ≡ true
unfolding operations calls meanings named_of name_of symbol_of number_of value_of other_words operation_of name_at digits_at plain_at
    bracket_at based_at marked_at bit_at bits_behind statements_at literal_at term_at unary_at more_at level_at expression_at optional_at
    closed_at repeated definition_at dummies_at uncommented argument_from arguments_at completed argument_in filled call_at parted rounds_at form_names mentions defined_names
    index_at word_value_at address_at instruction_at operation_words value_words single_at inside_at scope_with meaning read_through
    walked next_step step end_step label_step assignment_step number_step repeat_step define_step call_step
    early_value early_word sure_number text_if named_step unlabelled_step opening_of irp_step is_plain_line leaves starts_at same_entry
stopped_leave_test = refl

pub stopped_leave : Leaves [] [] stopped_source stopped_words 0o140
stopped_leave = leaves_by [] [] stopped_source stopped_words 0o140 (meaning [] [] stopped_source) refl stopped_leave_test
