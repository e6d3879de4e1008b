-- What `ka_isa` writes of a word is read back as a statement with its fields.
use Rattle.std.proofs.Common.{◌≡◌, ℕ, zero, suc, ◌+◌, ◌-◌, ◌*◌, ◌/◌, ◌^◌, ◌<◌, ◌==◌, ◌&&◌, List, [], ◌∷◌, ◌++◌, Option, Some, None, Ok, Bool}
use Rattle.std.proofs.Common.{true, false, cond, length, take, drop, refl, sym, ap, ◌∙◌, append_assoc, append-nil, arith}
use Rattle.std.specs.Prelude.{codes, is_none}
use Rattle.std.specs.List.{list_all, All, prefix_len, slice_index}
use Rattle.std.specs.Str.Lines.{lines, lines_of_parts}
use Rattle.std.proofs.lemmas.List.Splits.{slice_split_at}
use Rattle.std.proofs.lemmas.List.Folds.{list_all-append}
use Rattle.std.specs.Str.{bytes_eq}
use Rattle.std.proofs.lemmas.Bool.{and_parts, false≢true}
use Rattle.std.proofs.lemmas.Bool.Decides.{nat_tests}
use Rattle.std.proofs.lemmas.Slice.Eq.{bytes_eq-Decides}
use Rattle.std.proofs.Math.Seq.{drop-append_seam}
use Rattle.word36.specs.Octal.{octal_text}
use Rattle.word36.specs.Words.{left_half, right_half}
use Rattle.ka_isa.specs.declared.Fields.{Fields}
use Rattle.ka_isa.specs.Fields.{fields_of}
use Rattle.ka_isa.specs.Operations.{Name, Operation, operations, name_in, name_of, named_of, operation_meaning}
use Rattle.ka_isa.specs.Text.{accumulator_text, index_text, halves_text, named_text}
use Rattle.ka_isa.proofs.DistinctLemmas.{named_of_name}
use Rattle.mac_text.specs.Characters.{is_blank, is_name_character}
use Rattle.mac_text.specs.Names.{is_name, folded}
use Rattle.mac_text.specs.Keywords.{form_of}
use Rattle.mac_text.specs.Scan.{Scan, after_blanks, begins_with, word_of}
use Rattle.mac_text.specs.Expressions.{expression_at, optional_at, sign_at}
use Rattle.mac_text.specs.Statements.{index_at, operand_at, operands_at, instruction_at, pair_at, form_at, statement_at}
use Rattle.mac_text.specs.declared.syntax.SignedTerm.{SignedTerm}
use Rattle.mac_text.specs.declared.syntax.Operand.{Operand}
use Rattle.mac_text.specs.declared.syntax.Instruction.{Instruction}
use Rattle.mac_text.specs.declared.syntax.Data.{Data}
use Rattle.mac_text.specs.declared.syntax.Data.TheVariants as data_of
use Rattle.mac_text.specs.declared.syntax.Statement.TheVariants as statements
use Rattle.mac_text.specs.declared.syntax.Statement.{Statement}
use Rattle.mac_text.specs.Scan.{is_at_end, items_at}
use Rattle.mac_text.specs.Lines.{is_label, is_ascii, next_label_at, optional_statement_at, whole_statement_at, literals_of, line_of, lines_from, program_of}
use Rattle.mac_text.specs.Printed.{source_of_word, line_of_word, number_alone, unless_zero, instruction_with, named_data}
use Rattle.mac_text.proofs.NumberTexts.{place, word_read, behind_read, is_printed, word_is_printed, octal_is_printed}
use Rattle.mac_text.proofs.NumberTexts.{EndsExpression, octal_begins, octal_read, optional_read, optional_none}

-- a blank before a text does not count
after_blank : (text : List ℕ) → after_blanks (32 ∷ text) ≡ after_blanks text
after_blank text =
    let n = prefix_len is_blank text in
    let more : 1 + n ≡ suc n = omega arith in
    ap (λ k. drop k (32 ∷ text)) more

-- ---- the parts of an instruction

index_none : (text : List ℕ) → after_blanks text ≡ text → begins_with 40 text ≡ false → index_at (place text) ≡ Some (None, place text)
unfolding index_at
index_none text a b = rw (a, b) refl

index_number : (text : List ℕ) (n : ℕ) → expression_at (place text) ≡ Some (number_alone n, place (41 ∷ []))
    → index_at (place (40 ∷ text)) ≡ Some (Some (number_alone n), place [])
unfolding index_at
index_number text n e = rw e refl

ends_at_bracket : EndsExpression (41 ∷ [])
ends_at_bracket = record { starts = refl; plus = refl; minus = refl; word = refl }

ends_at_comma : (more : List ℕ) → EndsExpression (44 ∷ more)
ends_at_comma more = record { starts = refl; plus = refl; minus = refl; word = refl }

index_case : (none : Bool) (x : ℕ) → x < 8 ^ 22
    → index_at (place (cond none [] (codes "(" ++ octal_text x ++ codes ")")))
    ≡ Some (cond none None (Some (number_alone x)), place [])
index_case true x small = index_none [] refl refl
index_case false x small = index_number (octal_text x ++ 41 ∷ []) x (octal_read x (41 ∷ []) small ends_at_bracket)

index_read : (x : ℕ) → x < 8 ^ 22 → index_at (place (index_text x)) ≡ Some (unless_zero x, place [])
index_read x small = index_case (x == 0) x small

index_ends : (none : Bool) (x : ℕ)
    → EndsExpression (cond none [] (codes "(" ++ octal_text x ++ codes ")"))
    × (begins_with 44 (cond none [] (codes "(" ++ octal_text x ++ codes ")")) ≡ false)
index_ends true x = (record { starts = refl; plus = refl; minus = refl; word = refl }, refl)
index_ends false x = (record { starts = refl; plus = refl; minus = refl; word = refl }, refl)

address_read : (y x : ℕ) → y < 8 ^ 22 → expression_at (place (octal_text y ++ index_text x)) ≡ Some (number_alone y, place (index_text x))
address_read y x small = octal_read y (index_text x) small (index_ends (x == 0) x).0

operand_direct : (text rest : List ℕ) (y : ℕ) (index : Option (List SignedTerm)) → after_blanks text ≡ text → begins_with 64 text ≡ false
    → optional_at (place text) ≡ Some (Some (number_alone y), place rest) → index_at (place rest) ≡ Some (index, place [])
    → operand_at (place text) ≡ Some (record { indirect = false; address = Some (number_alone y); index = index }, place [])
unfolding operand_at
operand_direct text rest y index a b c d = rw (a, b, c, d) refl

operand_indirect : (text rest : List ℕ) (y : ℕ) (index : Option (List SignedTerm))
    → optional_at (place text) ≡ Some (Some (number_alone y), place rest) → index_at (place rest) ≡ Some (index, place [])
    → operand_at (place (64 ∷ text)) ≡ Some (record { indirect = true; address = Some (number_alone y); index = index }, place [])
unfolding operand_at
operand_indirect text rest y index c d = rw (c, d) refl

operand_read : (i : Bool) (y x : ℕ) → y < 8 ^ 22 → x < 8 ^ 22
    → operand_at (place (cond i (codes "@") [] ++ (octal_text y ++ index_text x)))
    ≡ Some (record { indirect = i; address = Some (number_alone y); index = unless_zero x }, place [])
operand_read true y x small small' =
    let begin = octal_begins y (index_text x) in
    operand_indirect (octal_text y ++ index_text x) (index_text x) y (unless_zero x)
    (optional_read _ _ (index_text x) y begin.starts begin.expression (address_read y x small)) (index_read x small')
operand_read false y x small small' =
    let begin = octal_begins y (index_text x) in
    operand_direct (octal_text y ++ index_text x) (index_text x) y (unless_zero x) begin.starts begin.at_sign
    (optional_read _ _ (index_text x) y begin.starts begin.expression (address_read y x small)) (index_read x small')

operands_with : (text rest : List ℕ) (ac : ℕ) (operand : Operand)
    → optional_at (place text) ≡ Some (Some (number_alone ac), place (44 ∷ rest))
    → operand_at (place rest) ≡ Some (operand, place [])
    → operands_at (place text) ≡ Some ((Some (number_alone ac), operand), place [])
unfolding operands_at
operands_with text rest ac operand a b = rw (a, b) refl

operands_without : (text rest : List ℕ) (operand : Operand) → optional_at (place text) ≡ Some (None, place rest)
    → operand_at (place rest) ≡ Some (operand, place [])
    → operands_at (place text) ≡ Some ((None, operand), place [])
unfolding operands_at
operands_without text rest operand a b = rw (a, b) refl

operands_address : (text rest : List ℕ) (y : ℕ) (index : Option (List SignedTerm)) → optional_at (place text) ≡ Some (Some (number_alone y), place rest)
    → after_blanks rest ≡ rest → begins_with 44 rest ≡ false → index_at (place rest) ≡ Some (index, place [])
    → operands_at (place text) ≡ Some ((None, record { indirect = false; address = Some (number_alone y); index = index }), place [])
unfolding operands_at
operands_address text rest y index a b c d = rw (a, b, c, d) refl

operands_case : (none i : Bool) (ac y x : ℕ) → ac < 8 ^ 22 → y < 8 ^ 22 → x < 8 ^ 22
    → operands_at (place (32 ∷ (cond none [] (octal_text ac ++ codes ",") ++ (cond i (codes "@") [] ++ (octal_text y ++ index_text x)))))
    ≡ Some ((cond none None (Some (number_alone ac)), record { indirect = i; address = Some (number_alone y); index = unless_zero x }), place [])
operands_case true true ac y x s t u =
    operands_without (32 ∷ 64 ∷ (octal_text y ++ index_text x)) (64 ∷ (octal_text y ++ index_text x)) _
    (optional_none _ _ refl refl) (operand_read true y x t u)
operands_case true false ac y x s t u =
    let begin = octal_begins y (index_text x) in
    let ends = index_ends (x == 0) x in
    operands_address (32 ∷ (octal_text y ++ index_text x)) (index_text x) y (unless_zero x)
    (optional_read (32 ∷ (octal_text y ++ index_text x)) (octal_text y ++ index_text x) (index_text x) y
    (after_blank (octal_text y ++ index_text x) ∙ begin.starts) begin.expression (address_read y x t)) ends.0.starts ends.1
    (index_read x u)
operands_case false i ac y x s t u =
    let rest = cond i (codes "@") [] ++ (octal_text y ++ index_text x) in
    let begin = octal_begins ac (44 ∷ rest) in
    let read =
    operands_with (32 ∷ (octal_text ac ++ 44 ∷ rest)) rest ac _
    (optional_read (32 ∷ (octal_text ac ++ 44 ∷ rest)) (octal_text ac ++ 44 ∷ rest) (44 ∷ rest) ac
    (after_blank (octal_text ac ++ 44 ∷ rest) ∙ begin.starts) begin.expression
    (octal_read ac (44 ∷ rest) s (ends_at_comma rest))) (operand_read i y x t u) in
    ap (λ l. operands_at (place (32 ∷ l))) (append_assoc (octal_text ac) (44 ∷ []) rest) ∙ read

-- ---- names of operations

-- a name that is read whole, and is not the name of a form
abbrev is_plain : Name → Bool
is_plain name = list_all is_name_character name && (is_name name && (is_none (form_of name) && bytes_eq (folded name) name))

all_plain : list_all (λ o. is_plain o.name) operations ≡ true
unfolding operations form_of
all_plain = refl

plain_first : (b : Bool) (one name : Name) (later : Option Name) → is_plain one ≡ true → Some name ≡ (cond b (Some one) later)
    → (Some name ≡ later → is_plain name ≡ true)
    → is_plain name ≡ true
plain_first true one name later h e rest = let same : name ≡ one = cc in rw same h
plain_first false one name later h e rest = rest e

plain_in : (os : List Operation) (code : ℕ) (name : Name) → list_all (λ o. is_plain o.name) os ≡ true → Some name ≡ name_in os code → is_plain name ≡ true
plain_in [] code name h e = cc
plain_in (o ∷ os) code name h e =
    let parts = and_parts (is_plain o.name) (list_all (λ o. is_plain o.name) os) h in
    plain_first (o.code == code) o.name name (name_in os code) parts.0 e (λ later. plain_in os code name parts.1 later)

pub record IsPlain (name : Name) : Type 0 where
  pub characters : list_all is_name_character name ≡ true
  pub names : is_name name ≡ true
  pub form : form_of name ≡ None
  pub whole : folded name ≡ name

no_form : {X : Type 0} (o : Option X) → is_none o ≡ true → o ≡ None
no_form None h = refl
no_form (Some x) h = absurd (false≢true h)

pub plain_name : (code : ℕ) (name : Name) → Some name ≡ name_of code → IsPlain name
unfolding name_of
plain_name code name e =
    let h = plain_in operations code name all_plain e in
    let p = and_parts (list_all is_name_character name) (is_name name && (is_none (form_of name) && bytes_eq (folded name) name)) h in
    let q = and_parts (is_name name) (is_none (form_of name) && bytes_eq (folded name) name) p.1 in
    let r = and_parts (is_none (form_of name)) (bytes_eq (folded name) name) q.1 in
    record { characters = p.0; names = q.0; form = no_form (form_of name) r.0; whole = (bytes_eq-Decides _ _).0 r.1 }

-- ---- statements

instruction_read : (code : ℕ) (text : List ℕ) (accumulator : Option (List SignedTerm)) (operand : Operand)
    → operands_at (place text) ≡ Some ((accumulator, operand), place [])
    → instruction_at (operation_meaning code) (place text) ≡ Some (record { word = code * 2 ^ 27; accumulator = accumulator; operand = operand }, place [])
unfolding instruction_at
instruction_read code text accumulator operand e = rw e refl

named_read : (text name rest : List ℕ) (code : ℕ) (given : Instruction) → after_blanks text ≡ text → word_of text ≡ name
    → drop (length name) text ≡ rest
    → IsPlain name
    → named_of name ≡ Some (operation_meaning code) → instruction_at (operation_meaning code) (place rest) ≡ Some (given, place [])
    → statement_at (place text) ≡ Some (statements.Data (data_of.Instruction given), place [])
unfolding statement_at
named_read text name rest code given a b c plain meaning is =
    rw (a, b, plain.names, plain.whole, plain.form, plain.whole, meaning, c, is) refl

skips_one : (text : List ℕ) → expression_at (place (32 ∷ text)) ≡ expression_at (place text)
unfolding expression_at sign_at
skips_one text = rw (after_blank text) refl

pair_read : (text rest : List ℕ) (l r : ℕ) → expression_at (place text) ≡ Some (number_alone l, place (44 ∷ rest))
    → expression_at (place rest) ≡ Some (number_alone r, place [])
    → pair_at (place text) ≡ Some ((number_alone l, number_alone r), place [])
unfolding pair_at
pair_read text rest l r a b = rw (a, b) refl

halves_form : (text : List ℕ) (l r : ℕ) → pair_at (place (32 ∷ text)) ≡ Some ((number_alone l, number_alone r), place [])
    → statement_at (place (codes "XWD " ++ text)) ≡ Some (statements.Data (data_of.Halves (number_alone l) (number_alone r)), place [])
unfolding statement_at form_of form_at
halves_form text l r e = rw e refl

halves_read : (l r : ℕ) → l < 8 ^ 22 → r < 8 ^ 22
    → statement_at (place (codes "XWD " ++ octal_text l ++ codes "," ++ octal_text r))
    ≡ Some (statements.Data (data_of.Halves (number_alone l) (number_alone r)), place [])
halves_read l r s t =
    let right =
    ap (λ text. expression_at (place text)) (sym (append-nil (octal_text r)))
    ∙ octal_read r [] t (record { starts = refl; plus = refl; minus = refl; word = refl }) in
    ap (λ t. statement_at (place (codes "XWD " ++ t))) (append_assoc (octal_text l) (44 ∷ []) (octal_text r))
    ∙ halves_form (octal_text l ++ 44 ∷ octal_text r) l r
    (pair_read (32 ∷ (octal_text l ++ 44 ∷ octal_text r)) (octal_text r) l r
    (skips_one (octal_text l ++ 44 ∷ octal_text r) ∙ octal_read l (44 ∷ octal_text r) s (ends_at_comma (octal_text r))) right)

-- ---- lines

-- a text that is a statement alone, with no label before it
record IsStatementText (text : List ℕ) : Type 0 where
  starts : after_blanks text ≡ text
  label : is_label text ≡ false
  more : is_at_end false text ≡ false
  printed : list_all is_printed text ≡ true

printed_is_ascii : (c : ℕ) → is_printed c ≡ true → is_ascii c ≡ true
printed_is_ascii c h = grind (arith, nat_tests)

text_is_ascii : (text : List ℕ) → list_all is_printed text ≡ true → list_all is_ascii text ≡ true
text_is_ascii [] h = refl
text_is_ascii (c ∷ cs) h =
    let p = and_parts (is_printed c) (list_all is_printed cs) h in
    rw (printed_is_ascii c p.0, text_is_ascii cs p.1) refl

no_label : (text : List ℕ) → IsStatementText text → next_label_at (place (32 ∷ text)) ≡ Some (None, place text)
unfolding next_label_at
no_label text is = rw (after_blank text, is.starts, is.label) refl

no_items_first : {X : Type 0} (next : Scan → Option (Option X × Scan)) (n : ℕ) (s t : Scan) → next s ≡ Some (None, t) → items_at next (suc n) s ≡ Some ([], t)
unfolding items_at
no_items_first next n s t h = rw h refl

whole_read : (text : List ℕ) (given : Statement) → IsStatementText text → statement_at (place text) ≡ Some (given, place [])
    → whole_statement_at (place text) ≡ Some (Some given, place [])
unfolding whole_statement_at optional_statement_at
whole_read text given is e = rw (is.starts, is.more, e) refl

line_read : (text : List ℕ) (given : Statement) → IsStatementText text → statement_at (place text) ≡ Some (given, place [])
    → line_of 8 (32 ∷ text) ≡ Some (record { labels = []; statement = Some given; literals = [] })
unfolding line_of literals_of
line_read text given is e =
    rw (
      text_is_ascii text is.printed,
      no_items_first next_label_at (length text) (place (32 ∷ text)) (place text) (no_label text is),
      whole_read text given is e,
    )
    refl

no_newline : (c : ℕ) → is_printed c ≡ true → (c == 10) ≡ false
no_newline c h = grind (arith, nat_tests)

no_newlines : (text : List ℕ) → list_all is_printed text ≡ true → All (λ c. (c == 10) ≡ false) text
no_newlines [] h k d lt = absurd (omega arith)
no_newlines (c ∷ cs) h zero d lt = no_newline c (and_parts (is_printed c) (list_all is_printed cs) h).0
no_newlines (c ∷ cs) h (suc k) d lt = no_newlines cs (and_parts (is_printed c) (list_all is_printed cs) h).1 k d (omega arith)

no_return : (text : List ℕ) (i : ℕ) → list_all is_printed text ≡ true → (slice_index text i == 13) ≡ false
no_return [] zero h = refl
no_return [] (suc i) h = refl
no_return (c ∷ cs) zero h = printed_no_return c (and_parts (is_printed c) (list_all is_printed cs) h).0
  where
    printed_no_return : (c : ℕ) → is_printed c ≡ true → (c == 13) ≡ false
    printed_no_return c h = grind (arith, nat_tests)
no_return (c ∷ cs) (suc i) h = no_return cs i (and_parts (is_printed c) (list_all is_printed cs) h).1

one_line : (text : List ℕ) → list_all is_printed text ≡ true → lines (text ++ 10 ∷ []) ≡ text ∷ []
one_line text h =
    ap lines_of_parts (slice_split_at (λ b. b == 10) text 10 [] (no_newlines text h) refl)
    ∙ ap (λ b. (cond b (take (length text - 1) text) text) ∷ []) (no_return text (length text - 1) h)

one_program : (text : List ℕ) (line : Data) → lines (text ++ 10 ∷ []) ≡ text ∷ []
    → line_of 8 text ≡ Some (record { labels = []; statement = Some (statements.Data line); literals = [] })
    → program_of (text ++ 10 ∷ []) ≡ Ok (record { labels = []; statement = Some (statements.Data line); literals = [] } ∷ [])
unfolding program_of lines_from
one_program text line a b = rw (a, b) refl

-- ---- words

-- a text of printed characters, in parts
joined_printed : (one other : List ℕ) → list_all is_printed one ≡ true → list_all is_printed other ≡ true → list_all is_printed (one ++ other) ≡ true
joined_printed one other h k = list_all-append is_printed one other ∙ rw (h, k) refl

accumulator_printed : (none : Bool) (ac : ℕ) → list_all is_printed (cond none [] (octal_text ac ++ codes ",")) ≡ true
accumulator_printed true ac = refl
accumulator_printed false ac = joined_printed (octal_text ac) (codes ",") (octal_is_printed ac) refl

index_printed : (none : Bool) (x : ℕ) → list_all is_printed (cond none [] (codes "(" ++ octal_text x ++ codes ")")) ≡ true
index_printed true x = refl
index_printed false x = joined_printed (codes "(" ++ octal_text x) (codes ")") (joined_printed (codes "(") (octal_text x) refl (octal_is_printed x)) refl

sign_printed : (i : Bool) → list_all is_printed (cond i (codes "@") []) ≡ true
sign_printed true = refl
sign_printed false = refl

-- the operands behind a name
abbrev operands_shown : Fields → List ℕ
operands_shown f = 32 ∷ (accumulator_text f.ac ++ (cond f.i (codes "@") [] ++ (octal_text f.y ++ index_text f.x)))

operands_printed : (f : Fields) → list_all is_printed (operands_shown f) ≡ true
operands_printed f =
    joined_printed (accumulator_text f.ac) (cond f.i (codes "@") [] ++ (octal_text f.y ++ index_text f.x)) (accumulator_printed (f.ac == 0) f.ac)
    (joined_printed (cond f.i (codes "@") []) (octal_text f.y ++ index_text f.x) (sign_printed f.i)
    (joined_printed (octal_text f.y) (index_text f.x) (octal_is_printed f.y) (index_printed (f.x == 0) f.x)))

-- the same text with its parts grouped to the right
regrouped : (name ac sign y x : List ℕ) → name ++ (32 ∷ []) ++ ac ++ sign ++ y ++ x ≡ name ++ (32 ∷ (ac ++ (sign ++ (y ++ x))))
regrouped name ac sign y x =
    append_assoc (name ++ (32 ∷ []) ++ ac ++ sign) y x
    ∙ append_assoc (name ++ (32 ∷ []) ++ ac) sign (y ++ x)
    ∙ append_assoc (name ++ (32 ∷ [])) ac (sign ++ (y ++ x))
    ∙ append_assoc name (32 ∷ []) (ac ++ (sign ++ (y ++ x)))

name_character_facts : (c : ℕ) → is_name_character c ≡ true → (is_blank c ≡ false) × ((c == 59) ≡ false)
name_character_facts c h = (name_no_blank c h, name_no_comment c h)
  where
    name_no_blank : (c : ℕ) → is_name_character c ≡ true → is_blank c ≡ false
    name_no_blank c h = grind (arith, nat_tests)

    name_no_comment : (c : ℕ) → is_name_character c ≡ true → (c == 59) ≡ false
    name_no_comment c h = grind (arith, nat_tests)

name_starts : (name rest : List ℕ) → list_all is_name_character name ≡ true → is_name name ≡ true
    → (after_blanks (name ++ rest) ≡ name ++ rest) × (is_at_end false (name ++ rest) ≡ false)
name_starts [] rest h k = absurd (false≢true k)
name_starts (c ∷ cs) rest h k =
    let facts = name_character_facts c (and_parts (is_name_character c) (list_all is_name_character cs) h).0 in
    (rw facts.0 refl, rw facts.1 refl)

named_text_is : (name : Name) (f : Fields) → IsPlain name → IsStatementText (name ++ operands_shown f)
named_text_is name f plain =
    let starts = name_starts name (operands_shown f) plain.characters plain.names in
    record {
      starts = starts.0;
      label = rw (behind_read name (operands_shown f) plain.characters refl, word_read name (operands_shown f) plain.characters refl, plain.names) refl;
      more = starts.1;
      printed = joined_printed name (operands_shown f) (word_is_printed name plain.characters) (operands_printed f);
    }

halves_text_is : (l r : ℕ) → IsStatementText (codes "XWD " ++ octal_text l ++ codes "," ++ octal_text r)
halves_text_is l r =
    record {
      starts = refl;
      label = refl;
      more = refl;
      printed =
          joined_printed (codes "XWD " ++ octal_text l ++ codes ",") (octal_text r)
          (joined_printed (codes "XWD " ++ octal_text l) (codes ",")
          (joined_printed (codes "XWD ") (octal_text l) refl (octal_is_printed l)) refl) (octal_is_printed r);
    }

one_statement : (text : List ℕ) (given : Data) → IsStatementText text → statement_at (place text) ≡ Some (statements.Data given, place [])
    → program_of ((32 ∷ text) ++ 10 ∷ []) ≡ Ok (record { labels = []; statement = Some (statements.Data given); literals = [] } ∷ [])
one_statement text given is e = one_program (32 ∷ text) given (one_line (32 ∷ text) is.printed) (line_read text (statements.Data given) is e)

named_statement : (code : ℕ) (name : Name) (f : Fields) → Some name ≡ name_of code → f.op ≡ code → f.ac < 8 ^ 22 → f.y < 8 ^ 22 → f.x < 8 ^ 22
    → statement_at (place (name ++ operands_shown f)) ≡ Some (statements.Data (data_of.Instruction (instruction_with f)), place [])
named_statement code name f e op s t u =
    let plain = plain_name code name e in
    let text = name ++ operands_shown f in
    named_read text name (operands_shown f) f.op (instruction_with f)
    (name_starts name (operands_shown f) plain.characters plain.names).0
    (word_read name (operands_shown f) plain.characters refl) (drop-append_seam name (operands_shown f)) plain
    (rw op (named_of_name code name e)) (instruction_read f.op (operands_shown f) (unless_zero f.ac) _ (operands_case (f.ac == 0) f.i f.ac f.y f.x s t u))

word_read_back : (name : Option Name) (w : ℕ) → name ≡ name_of (w / 2 ^ 27) → w < 2 ^ 36
    → program_of ((32 ∷ named_text name w) ++ 10 ∷ []) ≡ Ok (record { labels = []; statement = Some (statements.Data (named_data name w)); literals = [] } ∷ [])
word_read_back None w e small =
    one_statement (halves_text w) (data_of.Halves (number_alone (left_half w)) (number_alone (right_half w)))
    (halves_text_is (left_half w) (right_half w)) (halves_read (left_half w) (right_half w) (omega arith) (omega arith))
word_read_back (Some name) w e small =
    let f = fields_of w in
    ap (λ t. program_of ((32 ∷ t) ++ 10 ∷ [])) (regrouped name (accumulator_text f.ac) (cond f.i (codes "@") []) (octal_text f.y) (index_text f.x))
    ∙ one_statement (name ++ operands_shown f) (data_of.Instruction (instruction_with f))
    (named_text_is name f (plain_name (w / 2 ^ 27) name e))
    (named_statement (w / 2 ^ 27) name f e refl (omega arith) (omega arith) (omega arith))

-- each word is read back from its line
pub program_of_word : (w : ℕ) → w < 2 ^ 36 → program_of (source_of_word w) ≡ Ok (line_of_word w ∷ [])
program_of_word w small = word_read_back (name_of (w / 2 ^ 27)) w refl small
