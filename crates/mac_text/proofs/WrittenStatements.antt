-- Statements are read as they are written.
use Rattle.std.proofs.Common.{◌≡◌, ℕ, suc, ◌+◌, ◌<◌, ◌≤◌, ◌==◌, ◌&&◌, not, List, [], ◌∷◌, ◌++◌, Option, Some, None, Bool, true, false, length}
use Rattle.std.proofs.Common.{length-append, map, take, drop, refl, sym, ap, subst, ◌∙◌, append-nil, arith, eq-eqb}
use Rattle.std.specs.Prelude.{◌||◌, is_none, is_some, nat_lt, option_map, position}
use Rattle.std.specs.List.{list_all, prefix_len}
use Rattle.std.proofs.lemmas.Bool.{and_parts, not-true, ne_eqb}
use Rattle.std.proofs.lemmas.Bool.Decides.{nat_tests}
use Rattle.std.proofs.Math.Seq.{take-append_seam, drop-append_seam}
use Rattle.ka_isa.specs.Operations.{named_of}
use Rattle.ka_isa.specs.declared.calls.Named.{Named}
use Rattle.mac_text.specs.Characters.{is_blank, is_name_character}
use Rattle.mac_text.specs.Names.{is_name, folded}
use Rattle.mac_text.specs.Numbers.{is_digit_of}
use Rattle.mac_text.specs.Keywords.{form_of}
use Rattle.mac_text.specs.Scan.{Scan, after_blanks, skipped, begins_with, begins_with_commas, begins_expression, is_at_end, is_title_character, word_of}
use Rattle.mac_text.specs.Texts.{literal_len, up_to_next, text_at}
use Rattle.mac_text.specs.Expressions.{expression_at}
use Rattle.mac_text.specs.Statements.{instruction_at, value_at, with_data, form_at, worded_at, statement_at}
use Rattle.mac_text.specs.Lines.{optional_statement_at, whole_statement_at}
use Rattle.mac_text.specs.Written
use Rattle.mac_text.specs.Written.{Blanks, DigitsText, NumberText, SignText, TermText, ExpressionText, IndexText, OperandText, AccumulatorText, OperandsText}
use Rattle.mac_text.specs.Written.{PairText, QuotedText, TitleText, FormText, StatementText, IsStatement, parts_name, allows, before_if, sign_before}
use Rattle.mac_text.specs.Written.{sign_character, number_before, term_before, more_before, expression_before, index_before, indirect_before, operand_before}
use Rattle.mac_text.specs.Written.{accumulator_before, operands_before, quoted_before, form_written, form_before, form_literals, form_given}
use Rattle.mac_text.specs.Written.{expression_literals, expression_given, tells_nothing, is_bare, statement_before, statement_literals, statement_given}
use Rattle.mac_text.specs.Written.{comment_text}
use Rattle.mac_text.specs.declared.keyword.Form.{Form}
use Rattle.mac_text.specs.declared.syntax.SignedTerm.{SignedTerm}
use Rattle.mac_text.specs.declared.syntax.Sign.{Sign}
use Rattle.mac_text.specs.declared.syntax.Sign.TheVariants.{Plus, Minus}
use Rattle.mac_text.specs.declared.syntax.Instruction.{Instruction}
use Rattle.mac_text.specs.declared.syntax.Data.TheVariants as data_of
use Rattle.mac_text.specs.declared.syntax.Statement.{Statement}
use Rattle.mac_text.specs.declared.syntax.Statement.TheVariants as statements
use Rattle.mac_text.proofs.WordLemmas.{skip_twice}
use Rattle.mac_text.proofs.DigitLemmas.{digit_is_digit, no_name}
use Rattle.mac_text.proofs.NumberTexts.{ends_word, word_read}
use Rattle.mac_text.proofs.WrittenTerms.{skip_to, firm_stays, is_firm, blanks_end, EndsSum, word_begins, name_some, digits_are_characters, drop_further}
use Rattle.mac_text.proofs.WrittenTerms.{more_end, term_begins, expression_read, expression_begins, expression_behind_blanks}
use Rattle.mac_text.proofs.WrittenParts.{left, EndsPart, part_ends_sum, sum_ends_at, begun_not, index_rest, index_rest_blanks, instruction_read}
use Rattle.mac_text.proofs.WrittenParts.{optional_read, pair_read, list_read, number_read, point_rest, point_read, point_rest_blanks}

-- ---- texts

prefix_of_all : (p : ℕ → Bool) (xs ys : List ℕ) → list_all p xs ≡ true → prefix_len p (xs ++ ys) ≡ length xs + prefix_len p ys
prefix_of_all p [] ys h = omega arith
prefix_of_all p (x ∷ xs) ys h =
    let q = and_parts (p x) (list_all p xs) h in
    rw q.0 (omega (arith, prefix_of_all p xs ys q.1))

-- the first place of a character that stands nowhere before
pub position_read : (d : ℕ) (body rest : List ℕ) → list_all (λ c. not (c == d)) body ≡ true → position (λ c. c == d) (body ++ d ∷ rest) ≡ Some (length body)
position_read d body rest h =
    let here : prefix_len (λ c. not (c == d)) (d ∷ rest) ≡ 0 = rw (eq-eqb d d refl) refl in
    let len : prefix_len (λ c. not (c == d)) (body ++ d ∷ rest) ≡ length body = omega (arith, prefix_of_all (λ c. not (c == d)) body (d ∷ rest) h, here) in
    let more : nat_lt (length body) (length (body ++ d ∷ rest)) ≡ true = grind (arith, nat_tests, length-append body (d ∷ rest)) in
    rw (len, more) refl

next_read : (d : ℕ) (body rest : List ℕ) → list_all (λ c. not (c == d)) body ≡ true → up_to_next d (body ++ d ∷ rest) ≡ Some (body, rest)
next_read d body rest h =
    ap (option_map (λ end. (take end (body ++ d ∷ rest), drop (end + 1) (body ++ d ∷ rest)))) (position_read d body rest h)
    ∙ rw (take-append_seam body (d ∷ rest), drop_further body d rest) refl

pub text_read : (q : QuotedText) (rest : List ℕ) → text_at (quoted_before q rest) ≡ Some (q.text, rest)
unfolding text_at
text_read q rest =
    let there = skip_to q.before (q.delimiter ∷ (q.text ++ q.delimiter ∷ rest)) (ap not q.firm) in
    rw there (next_read q.delimiter q.text rest q.within)

-- ---- ends of statements

-- what may stand behind a statement
pub record EndsStatement (rest : List ℕ) : Type 0 where
  pub part : EndsPart rest
  pub name : (in_literal : Bool) → parts_name in_literal rest ≡ true
  pub comma : begins_with 44 (after_blanks rest) ≡ false
  pub title : after_blanks (drop (prefix_len is_title_character rest) rest) ≡ after_blanks rest

blank_parts : (in_literal : Bool) (c : ℕ) → is_blank c ≡ true → (not (is_name_character c) && (not (c == 58) || in_literal)) ≡ true
blank_parts true c h = grind (arith, nat_tests)
blank_parts false c h = grind (arith, nat_tests)

blank_in_title : (c : ℕ) → is_blank c ≡ true → is_title_character c ≡ true
blank_in_title c h = grind (arith, nat_tests)

blanks_in_title : (bs : List ℕ) → list_all is_blank bs ≡ true → list_all is_title_character bs ≡ true
blanks_in_title [] h = refl
blanks_in_title (b ∷ bs) h =
    let p = and_parts (is_blank b) (list_all is_blank bs) h in
    rw (blank_in_title b p.0, blanks_in_title bs p.1) refl

pub blanks_part : (in_literal : Bool) (bs x : List ℕ) → list_all is_blank bs ≡ true → parts_name in_literal x ≡ true → parts_name in_literal (bs ++ x) ≡ true
blanks_part in_literal [] x h e = e
blanks_part in_literal (b ∷ bs) x h e = blank_parts in_literal b (and_parts (is_blank b) (list_all is_blank bs) h).0

title_behind : (xs ys : List ℕ) → list_all is_title_character xs ≡ true
    → drop (prefix_len is_title_character (xs ++ ys)) (xs ++ ys) ≡ drop (prefix_len is_title_character ys) ys
title_behind [] ys h = refl
title_behind (x ∷ xs) ys h =
    let p = and_parts (is_title_character x) (list_all is_title_character xs) h in
    let one : 1 + prefix_len is_title_character (xs ++ ys) ≡ suc (prefix_len is_title_character (xs ++ ys)) = omega arith in
    rw (p.0, one) (title_behind xs ys p.1)

-- blanks, and then the end or a comment
pub statement_ends : (b : Blanks) (comment : Option (List ℕ)) → EndsStatement (b.text ++ comment_text comment)
statement_ends b None =
    let there = skip_to b [] refl in
    record {
      part = record {
        word = blanks_end b [] refl;
        expression = ap begins_expression there;
        bracket = ap (begins_with 40) there;
        at_sign = ap (begins_with 64) there;
      };
      name = λ in_literal. blanks_part in_literal b.text [] b.blank refl;
      comma = ap (begins_with 44) there;
      title = ap after_blanks (title_behind b.text [] (blanks_in_title b.text b.blank)) ∙ sym there;
    }
statement_ends b (Some comment) =
    let there = skip_to b (59 ∷ comment) refl in
    record {
      part = record {
        word = blanks_end b (59 ∷ comment) refl;
        expression = ap begins_expression there;
        bracket = ap (begins_with 40) there;
        at_sign = ap (begins_with 64) there;
      };
      name = λ in_literal. blanks_part in_literal b.text (59 ∷ comment) b.blank refl;
      comma = ap (begins_with 44) there;
      title = ap after_blanks (title_behind b.text (59 ∷ comment) (blanks_in_title b.text b.blank)) ∙ sym there;
    }

pub statement_ends_blank : (b : Blanks) → EndsStatement b.text
statement_ends_blank b = subst EndsStatement (append-nil b.text) (statement_ends b None)

-- ---- a name stays parted from what stands behind it, whatever stands behind that

parts_blanks : (in_literal : Bool) (bs x y : List ℕ) → (parts_name in_literal x ≡ true → parts_name in_literal y ≡ true)
    → parts_name in_literal (bs ++ x) ≡ true
    → parts_name in_literal (bs ++ y) ≡ true
parts_blanks in_literal [] x y f h = f h
parts_blanks in_literal (b ∷ bs) x y f h = h

parts_word : (in_literal : Bool) (w x y : List ℕ) → 0 < length w → parts_name in_literal (w ++ x) ≡ true → parts_name in_literal (w ++ y) ≡ true
parts_word in_literal [] x y some h = absurd (omega arith)
parts_word in_literal (c ∷ cs) x y some h = h

parts_number : (in_literal : Bool) (n : NumberText) (x y : List ℕ) → parts_name in_literal (number_before n x) ≡ true
    → parts_name in_literal (number_before n y) ≡ true
parts_number in_literal (Written.Decimal before digits) x y h = parts_blanks in_literal before.text _ _ (parts_word in_literal digits.text x y digits.some) h
parts_number in_literal (Written.Marked before m) x y h = parts_blanks in_literal before.text (Written.marked_before m x) (Written.marked_before m y) (λ k. k) h

parts_title : (in_literal : Bool) (t x y : List ℕ) → (parts_name in_literal x ≡ true → parts_name in_literal y ≡ true)
    → parts_name in_literal (t ++ x) ≡ true
    → parts_name in_literal (t ++ y) ≡ true
parts_title in_literal t x y f h = parts_blanks in_literal t x y f h

pub parts_word_end : (in_literal : Bool) (x : List ℕ) → parts_name in_literal x ≡ true → ends_word x ≡ true
parts_word_end in_literal [] h = refl
parts_word_end in_literal (c ∷ cs) h = (and_parts (not (is_name_character c)) (not (c == 58) || in_literal) h).0

-- ---- the steps of each reader

value_alone : (s t : Scan) (e : List SignedTerm) → expression_at s ≡ Some (e, t)
    → begins_with_commas (after_blanks t.rest) ≡ false
    → value_at s ≡ Some (data_of.Value e, skipped t)
unfolding value_at
value_alone s t e a b = rw (a, b) refl

value_halves : (s t u : Scan) (x : List ℕ) (l r : List SignedTerm) → expression_at s ≡ Some (l, t)
    → after_blanks t.rest ≡ 44 ∷ 44 ∷ x → expression_at (left t x) ≡ Some (r, u)
    → value_at s ≡ Some (data_of.Halves l r, u)
unfolding value_at
value_halves s t u x l r a b c = rw (a, b, c) refl

statement_formed : (s t : Scan) (name body : List ℕ) (form : Form) (given : Statement) → after_blanks s.rest ≡ name ++ body
    → word_of (name ++ body) ≡ name → is_name name ≡ true → form_of (folded name) ≡ Some form
    → form_at form (left s body) ≡ Some (given, t)
    → statement_at s ≡ Some (given, t)
unfolding statement_at
statement_formed s t name body form given a b c d e = rw (a, b, c, d, drop-append_seam name body) e

statement_named : (s t : Scan) (name body : List ℕ) (named : Named) (given : Instruction) → after_blanks s.rest ≡ name ++ body
    → word_of (name ++ body) ≡ name → is_name name ≡ true → form_of (folded name) ≡ None → named_of (folded name) ≡ Some named
    → instruction_at named (left s body) ≡ Some (given, t)
    → statement_at s ≡ Some (statements.Data (data_of.Instruction given), t)
unfolding statement_at
statement_named s t name body named given a b c d e f = rw (a, b, c, d, e, drop-append_seam name body, f) refl

abbrev value_statement : Scan → Option (Statement × Scan)
value_statement s = with_data (λ d. d) (value_at s)

worded_bare : (w : List ℕ) (s : Scan) → is_name w ≡ false → worded_at w s ≡ value_statement s
worded_bare w s a = rw a refl

worded_other : (w : List ℕ) (s : Scan) → form_of (folded w) ≡ None → named_of (folded w) ≡ None → is_name w ≡ true → worded_at w s ≡ value_statement s
worded_other w s a b c = rw (c, a, b) refl

pub statement_behind_blanks : (s : Scan) → statement_at (skipped s) ≡ statement_at s
unfolding statement_at
statement_behind_blanks s = ap (λ x. worded_at (word_of x) (left s x)) (skip_twice s.rest)

no_commas : (x : List ℕ) → begins_with 44 x ≡ false → begins_with_commas x ≡ false
no_commas [] h = refl
no_commas (c ∷ []) h = refl
no_commas (c ∷ d ∷ cs) h = rw h refl

is_nothing : {X : Type 0} (o : Option X) → is_none o ≡ true → o ≡ None
is_nothing None h = refl
is_nothing (Some x) h = absurd (Rattle.std.proofs.lemmas.Bool.false≢true h)

pub digits_no_name : (radix : ℕ) (ds : List ℕ) → radix ≤ 10 → 0 < length ds → list_all (is_digit_of radix) ds ≡ true → is_name ds ≡ false
digits_no_name radix [] small some h = absurd (omega arith)
digits_no_name radix (d ∷ ds) small some h = no_name d ds (digit_is_digit radix d small (and_parts (is_digit_of radix d) (list_all (is_digit_of radix) ds) h).0)

module _ (radix : ℕ) (in_literal : Bool) {L : Type 0} (text_of : L → List ℕ) (small : radix ≤ 10)
    (cut : (l : L) (rest : List ℕ) → (in_literal ≡ false) × (literal_len (text_of l ++ 93 ∷ rest) ≡ Some (length (text_of l)))) where
  abbrev at : List L → List ℕ → Scan
  at earlier rest = record { radix = radix; in_literal = in_literal; cuts = map text_of earlier; rest = rest }

  parts_term : (t : TermText radix L) (x y : List ℕ) → parts_name in_literal (term_before text_of t x) ≡ true
      → parts_name in_literal (term_before text_of t y) ≡ true
  parts_term (Written.Number digits) x y h = parts_word in_literal digits.text x y digits.some h
  parts_term (Written.Marked m) x y h = h
  parts_term (Written.Label name) x y h = parts_word in_literal name.text x y (name_some name.text name.names) h
  parts_term Written.Point x y h = h
  parts_term (Written.Literal l) x y h = h

  parts_signed : (sign : Option SignText) (t : TermText radix L) (x y : List ℕ)
      → parts_name in_literal (before_if sign_before sign (term_before text_of t x)) ≡ true
      → parts_name in_literal (before_if sign_before sign (term_before text_of t y)) ≡ true
  parts_signed None t x y h = parts_term t x y h
  parts_signed (Some s) t x y h = h

  parts_expression : (e : ExpressionText radix L) (x y : List ℕ) → parts_name in_literal (expression_before text_of e x) ≡ true
      → parts_name in_literal (expression_before text_of e y) ≡ true
  parts_expression e x y h =
      parts_blanks in_literal e.before.text _ _
      (parts_signed e.sign e.term (more_before text_of e.more x) (more_before text_of e.more y)) h

  parts_optional : (e : Option (ExpressionText radix L)) (x y : List ℕ)
      → (parts_name in_literal x ≡ true → parts_name in_literal y ≡ true)
      → parts_name in_literal (before_if (expression_before text_of) e x) ≡ true
      → parts_name in_literal (before_if (expression_before text_of) e y) ≡ true
  parts_optional None x y f h = f h
  parts_optional (Some e) x y f h = parts_expression e x y h

  parts_index : (i : Option (IndexText radix L)) (x y : List ℕ)
      → (parts_name in_literal x ≡ true → parts_name in_literal y ≡ true)
      → parts_name in_literal (before_if (index_before text_of) i x) ≡ true
      → parts_name in_literal (before_if (index_before text_of) i y) ≡ true
  parts_index None x y f h = f h
  parts_index (Some i) x y f h =
      parts_blanks in_literal i.before.text (40 ∷ expression_before text_of i.register (i.behind.text ++ 41 ∷ x))
      (40 ∷ expression_before text_of i.register (i.behind.text ++ 41 ∷ y)) (λ k. k) h

  parts_indirect : (b : Option Blanks) (x y : List ℕ) → (parts_name in_literal x ≡ true → parts_name in_literal y ≡ true)
      → parts_name in_literal (before_if indirect_before b x) ≡ true
      → parts_name in_literal (before_if indirect_before b y) ≡ true
  parts_indirect None x y f h = f h
  parts_indirect (Some b) x y f h = parts_blanks in_literal b.text (64 ∷ x) (64 ∷ y) (λ k. k) h

  parts_operand : (o : OperandText radix L) (x y : List ℕ) → (parts_name in_literal x ≡ true → parts_name in_literal y ≡ true)
      → parts_name in_literal (operand_before text_of o x) ≡ true
      → parts_name in_literal (operand_before text_of o y) ≡ true
  parts_operand o x y f h = parts_indirect o.indirect _ _ (parts_optional o.address _ _ (parts_index o.index x y f)) h

  pub parts_operands : (a : Option (AccumulatorText radix L)) (o : OperandText radix L) (x y : List ℕ)
      → (parts_name in_literal x ≡ true → parts_name in_literal y ≡ true)
      → parts_name in_literal (before_if (accumulator_before text_of) a (operand_before text_of o x)) ≡ true
      → parts_name in_literal (before_if (accumulator_before text_of) a (operand_before text_of o y)) ≡ true
  parts_operands None o x y f h = parts_operand o x y f h
  parts_operands (Some a) o x y f h = parts_expression a.register _ _ h

  pub parts_form : (form : FormText radix L) (x y : List ℕ) → (parts_name in_literal x ≡ true → parts_name in_literal y ≡ true)
      → parts_name in_literal (form_before text_of form x) ≡ true
      → parts_name in_literal (form_before text_of form y) ≡ true
  parts_form (Written.Xwd p) x y f h = parts_expression p.left _ _ h
  parts_form (Written.Iowd p) x y f h = parts_expression p.left _ _ h
  parts_form (Written.Exp e more) x y f h = parts_expression e _ _ h
  parts_form (Written.Point p) x y f h = parts_number in_literal p.size _ _ h
  parts_form (Written.Text form q) x y f h =
      parts_blanks in_literal q.before.text (q.delimiter ∷ (q.text ++ q.delimiter ∷ x))
      (q.delimiter ∷ (q.text ++ q.delimiter ∷ y)) (λ k. k) h
  parts_form (Written.Block e) x y f h = parts_expression e x y h
  parts_form (Written.Loc e) x y f h = parts_expression e x y h
  parts_form (Written.End e) x y f h = parts_optional e x y f h
  parts_form (Written.Radix n) x y f h = parts_number in_literal n x y h
  parts_form (Written.Title t) x y f h = parts_title in_literal t.text x y f h

  -- ---- forms

  abbrev pub form_rest : FormText radix L → List ℕ → List ℕ
  form_rest (Written.Xwd p) rest = after_blanks rest
  form_rest (Written.Iowd p) rest = after_blanks rest
  form_rest (Written.Exp e more) rest = after_blanks rest
  form_rest (Written.Point p) rest = point_rest radix in_literal text_of small cut p rest
  form_rest (Written.Text form q) rest = rest
  form_rest (Written.Block e) rest = after_blanks rest
  form_rest (Written.Loc e) rest = after_blanks rest
  form_rest (Written.End e) rest = after_blanks rest
  form_rest (Written.Radix n) rest = rest
  form_rest (Written.Title t) rest = drop (prefix_len is_title_character rest) rest

  form_read : (form : FormText radix L) (rest : List ℕ) → EndsStatement rest
      → form_at (form_written form) (at [] (form_before text_of form rest)) ≡ Some (form_given [] form, at (form_literals [] form) (form_rest form rest))
  unfolding form_at
  form_read (Written.Xwd p) rest end =
      ap (with_data (λ p. data_of.Halves p.0 p.1))
      (pair_read radix in_literal text_of small cut [] p rest (part_ends_sum end.part))
  form_read (Written.Iowd p) rest end =
      ap (with_data (λ p. data_of.Iowd p.0 p.1)) (pair_read radix in_literal text_of small cut [] p rest (part_ends_sum end.part))
  form_read (Written.Exp e more) rest end =
      ap (with_data data_of.Exp) (list_read radix in_literal text_of small cut [] e more rest (part_ends_sum end.part) end.comma)
  form_read (Written.Point p) rest end = ap (with_data (λ d. d)) (point_read radix in_literal text_of small cut p rest end.part end.comma)
  form_read (Written.Text form q) rest end = rw (text_read q rest) refl
  form_read (Written.Block e) rest end = ap (with_data data_of.Block) (expression_read radix in_literal text_of small cut [] e rest (part_ends_sum end.part))
  form_read (Written.Loc e) rest end = rw (expression_read radix in_literal text_of small cut [] e rest (part_ends_sum end.part)) refl
  form_read (Written.End e) rest end = rw (optional_read radix in_literal text_of small cut [] e rest (part_ends_sum end.part) end.part.expression) refl
  form_read (Written.Radix n) rest end = rw (number_read radix in_literal text_of small cut [] n rest end.part.word) refl
  form_read (Written.Title t) rest end = rw (title_behind t.text rest t.within) refl

  form_rest_blanks : (form : FormText radix L) (rest : List ℕ) → EndsStatement rest → after_blanks (form_rest form rest) ≡ after_blanks rest
  form_rest_blanks (Written.Xwd p) rest end = skip_twice rest
  form_rest_blanks (Written.Iowd p) rest end = skip_twice rest
  form_rest_blanks (Written.Exp e more) rest end = skip_twice rest
  form_rest_blanks (Written.Point p) rest end = point_rest_blanks radix in_literal text_of small cut p rest
  form_rest_blanks (Written.Text form q) rest end = refl
  form_rest_blanks (Written.Block e) rest end = skip_twice rest
  form_rest_blanks (Written.Loc e) rest end = skip_twice rest
  form_rest_blanks (Written.End e) rest end = skip_twice rest
  form_rest_blanks (Written.Radix n) rest end = refl
  form_rest_blanks (Written.Title t) rest end = end.title

  -- ---- statements

  abbrev pub statement_rest : StatementText radix L → List ℕ → List ℕ
  statement_rest (Written.Formed name form) rest = form_rest form rest
  statement_rest (Written.Instruction name named o) rest = index_rest radix in_literal text_of small cut o.operand.index rest
  statement_rest (Written.Value e) rest = after_blanks (after_blanks rest)
  statement_rest (Written.Halves p) rest = after_blanks rest

  statement_rest_blanks : (st : StatementText radix L) (rest : List ℕ) → EndsStatement rest → after_blanks (statement_rest st rest) ≡ after_blanks rest
  statement_rest_blanks (Written.Formed name form) rest end = form_rest_blanks form rest end
  statement_rest_blanks (Written.Instruction name named o) rest end = index_rest_blanks radix in_literal text_of small cut o.operand.index rest
  statement_rest_blanks (Written.Value e) rest end = skip_twice (after_blanks rest) ∙ skip_twice rest
  statement_rest_blanks (Written.Halves p) rest end = skip_twice rest

  -- the first word of an expression that is bare tells nothing
  bare_case : (s : Scan) (sign : Option SignText) (t : TermText radix L) (x : List ℕ) → (is_some sign || tells_nothing t) ≡ true → ends_word x ≡ true
      → worded_at (word_of (before_if sign_before sign (term_before text_of t x))) s ≡ value_statement s
  bare_case s (Some sign) t x bare e = ap (λ w. worded_at w s) (no_word sign.sign (sign.behind.text ++ term_before text_of t x)) ∙ worded_bare [] s refl
    where
      no_word : (sign : Sign) (y : List ℕ) → word_of (sign_character sign ∷ y) ≡ []
      no_word Plus y = refl
      no_word Minus y = refl
  bare_case s None (Written.Number digits) x bare e =
      ap (λ w. worded_at w s) (word_read digits.text x (digits_are_characters radix digits.text small digits.digits) e)
      ∙ worded_bare digits.text s (digits_no_name radix digits.text small digits.some digits.digits)
  bare_case s None (Written.Marked m) x bare e = worded_bare [] s refl
  bare_case s None (Written.Label name) x bare e =
      let p = and_parts (is_none (form_of (folded name.text))) (is_none (named_of (folded name.text))) bare in
      ap (λ w. worded_at w s) (word_read name.text x name.characters e) ∙ worded_other name.text s (is_nothing _ p.0) (is_nothing _ p.1) name.names
  bare_case s None Written.Point x bare e = ap (λ w. worded_at w s) (word_read (46 ∷ []) x refl e) ∙ worded_bare (46 ∷ []) s refl
  bare_case s None (Written.Literal l) x bare e = worded_bare [] s refl

  pub firm_case : (sign : Option SignText) (t : TermText radix L) (x : List ℕ) → is_firm (before_if sign_before sign (term_before text_of t x)) ≡ true
  firm_case None t x = (term_begins radix in_literal text_of small cut t x).firm
  firm_case (Some s) t x = sign_firm s.sign (s.behind.text ++ term_before text_of t x)
    where
      sign_firm : (sign : Sign) (y : List ℕ) → is_firm (sign_character sign ∷ y) ≡ true
      sign_firm Plus y = refl
      sign_firm Minus y = refl

  value_word : (s : Scan) (e : ExpressionText radix L) (rest : List ℕ) → is_bare e ≡ true → ends_word rest ≡ true
      → worded_at (word_of (after_blanks (expression_before text_of e rest))) s ≡ value_statement s
  value_word s e rest bare end =
      let x = more_before text_of e.more rest in
      ap (λ y. worded_at (word_of y) s) (skip_to e.before _ (firm_case e.sign e.term x))
      ∙ bare_case s e.sign e.term x bare (more_end radix in_literal text_of small cut e.more rest end)

  expression_later : (e : ExpressionText radix L) (rest : List ℕ) → EndsSum rest
      → expression_at (skipped (at [] (expression_before text_of e rest))) ≡ Some (expression_given [] e, at (expression_literals [] e) (after_blanks rest))
  expression_later e rest end =
      expression_behind_blanks (at [] (expression_before text_of e rest))
      ∙ expression_read radix in_literal text_of small cut [] e rest end

  name_read : (name : Written.NameText) (body : List ℕ) → parts_name in_literal body ≡ true
      → (after_blanks (name.text ++ body) ≡ name.text ++ body) × (word_of (name.text ++ body) ≡ name.text)
  name_read name body parted =
      let begin = word_begins name.text body (name_some name.text name.names) name.characters in
      (firm_stays (name.text ++ body) begin.firm, word_read name.text body name.characters (parts_word_end in_literal body parted))

  pub statement_read : (st : StatementText radix L) (rest : List ℕ) → IsStatement in_literal text_of st → EndsStatement rest
      → statement_at (at [] (statement_before text_of st rest)) ≡ Some (statement_given st, at (statement_literals st) (statement_rest st rest))
  unfolding statement_at
  statement_read (Written.Formed name form) rest is end =
      let body = form_before text_of form rest in
      let read = name_read name body (parts_form form [] rest (λ _. end.name in_literal) is.1) in
      statement_formed (at [] (name.text ++ body)) _ name.text body (form_written form) _ read.0 read.1 name.names is.0 (form_read form rest end)
  statement_read (Written.Instruction name named o) rest is end =
      let body = operands_before text_of o rest in
      let read = name_read name body (parts_operands o.accumulator o.operand [] rest (λ _. end.name in_literal) is.3) in
      statement_named (at [] (name.text ++ body)) _ name.text body named _ read.0 read.1 name.names is.0 is.1
      (instruction_read radix in_literal text_of small cut [] named o rest is.2 end.part end.comma)
  statement_read (Written.Value e) rest is end =
      let s = at [] (expression_before text_of e rest) in
      let none = no_commas (after_blanks (after_blanks rest)) (ap (begins_with 44) (skip_twice rest) ∙ end.comma) in
      value_word (skipped s) e rest is end.part.word
      ∙ ap (with_data (λ d. d))
      (value_alone (skipped s) (at (expression_literals [] e) (after_blanks rest)) (expression_given [] e)
      (expression_later e rest (part_ends_sum end.part)) none)
  statement_read (Written.Halves p) rest is end =
      let right = expression_before text_of p.right rest in
      let tail = p.behind.text ++ 44 ∷ 44 ∷ right in
      let s = at [] (expression_before text_of p.left tail) in
      let ends = sum_ends_at p.behind 44 (44 ∷ right) refl refl in
      let later = expression_literals [] p.left in
      value_word (skipped s) p.left tail is ends.word ∙ ap (with_data (λ d. d))
      (value_halves (skipped s) (at later (after_blanks tail)) _ right (expression_given [] p.left) _
      (expression_later p.left tail ends)
      (skip_twice tail ∙ skip_to p.behind (44 ∷ 44 ∷ right) refl)
      (expression_read radix in_literal text_of small cut later p.right rest (part_ends_sum end.part)))

  -- ---- whole statements

  named_begins : (name : Written.NameText) (body : List ℕ) → begins_expression (after_blanks (name.text ++ body)) ≡ true
  named_begins name body =
      let begin = word_begins name.text body (name_some name.text name.names) name.characters in
      ap begins_expression (firm_stays (name.text ++ body) begin.firm) ∙ begin.expression

  statement_begins : (st : StatementText radix L) (rest : List ℕ) → begins_expression (after_blanks (statement_before text_of st rest)) ≡ true
  statement_begins (Written.Formed name form) rest = named_begins name (form_before text_of form rest)
  statement_begins (Written.Instruction name named o) rest = named_begins name (operands_before text_of o rest)
  statement_begins (Written.Value e) rest = expression_begins radix in_literal text_of small cut e rest
  statement_begins (Written.Halves p) rest =
      expression_begins radix in_literal text_of small cut p.left
      (p.behind.text ++ 44 ∷ 44 ∷ expression_before text_of p.right rest)

  begun_no_end : (x : List ℕ) → begins_expression x ≡ true → is_at_end in_literal x ≡ false
  begun_no_end [] h = absurd (Rattle.std.proofs.lemmas.Bool.false≢true h)
  begun_no_end (c ∷ cs) h = rw (begun_not 59 (c ∷ cs) h refl) refl

  optional_statement : (s t : Scan) (given : Statement) → is_at_end s.in_literal (after_blanks s.rest) ≡ false
      → statement_at (skipped s) ≡ Some (given, t)
      → optional_statement_at s ≡ Some (Some given, t)
  unfolding optional_statement_at
  optional_statement s t given a b = rw (a, b) refl

  whole_steps : (s t : Scan) (given : Option Statement) → optional_statement_at s ≡ Some (given, t)
      → is_at_end t.in_literal (after_blanks t.rest) ≡ true
      → whole_statement_at s ≡ Some (given, skipped t)
  unfolding whole_statement_at
  whole_steps s t given a b = rw (a, b) refl

  no_statement : (s : Scan) → is_at_end s.in_literal (after_blanks s.rest) ≡ true → optional_statement_at s ≡ Some (None, skipped s)
  unfolding optional_statement_at
  no_statement s a = rw a refl

  -- a statement behind blanks, with nothing behind it but a comment
  pub whole_read : (text : List ℕ) (st : StatementText radix L) (rest : List ℕ)
      → after_blanks text ≡ after_blanks (statement_before text_of st rest) → IsStatement in_literal text_of st
      → EndsStatement rest
      → is_at_end in_literal (after_blanks rest) ≡ true
      → whole_statement_at (at [] text) ≡ Some (Some (statement_given st), at (statement_literals st) (after_blanks rest))
  whole_read text st rest there is end ended =
      let begun = begun_no_end (after_blanks text) (ap begins_expression there ∙ statement_begins st rest) in
      let same = statement_rest_blanks st rest end in
      let read = ap (λ x. statement_at (at [] x)) there ∙ statement_behind_blanks (at [] (statement_before text_of st rest)) ∙ statement_read st rest is end in
      whole_steps (at [] text) (at (statement_literals st) (statement_rest st rest)) _
      (optional_statement (at [] text) _ _ begun read) (ap (is_at_end in_literal) same ∙ ended)
      ∙ ap (λ x. Some (Some (statement_given st), at (statement_literals st) x)) same

  pub nothing_read : (text : List ℕ) → is_at_end in_literal (after_blanks text) ≡ true
      → whole_statement_at (at [] text) ≡ Some (None, at [] (after_blanks text))
  nothing_read text ended =
      whole_steps (at [] text) (at [] (after_blanks text)) None (no_statement (at [] text) ended) (ap (is_at_end in_literal) (skip_twice text) ∙ ended)
      ∙ ap (λ x. Some (None, at [] x)) (skip_twice text)
