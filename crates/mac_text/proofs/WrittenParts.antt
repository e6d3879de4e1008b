-- Operands, lists and numbers are read as they are written.
use Rattle.std.proofs.Common.{◌≡◌, ℕ, zero, suc, ◌≤◌, ◌==◌, not, List, [], ◌∷◌, ◌++◌, Option, Some, None, Bool, true, false}
use Rattle.std.proofs.Common.{length, length-append, length-drop, map, refl, sym, ap, ◌∙◌, arith}
use Rattle.std.specs.Prelude.{◌||◌, is_none, is_some, option_map}
use Rattle.std.specs.List.{prefix_len}
use Rattle.std.proofs.lemmas.Bool.{or_parts, ne_eqb, false≢true}
use Rattle.std.proofs.Math.Seq.{drop-append_seam}
use Rattle.ka_isa.specs.declared.calls.Named.{Named}
use Rattle.mac_text.specs.Characters.{is_blank, is_name_character}
use Rattle.mac_text.specs.Scan.{Scan, after_blanks, skipped, begins_with, begins_expression, meets, word_of, items_at}
use Rattle.mac_text.specs.Texts.{literal_len}
use Rattle.mac_text.specs.Numbers.{number_of}
use Rattle.mac_text.specs.Expressions.{expression_at, optional_at, marked_at}
use Rattle.mac_text.specs.Statements.{index_at, operand_at, operands_at, is_allowed, instruction_at, pair_at}
use Rattle.mac_text.specs.Statements.{next_expression_at, expressions_at, decimal_at, number_at, point_at}
use Rattle.mac_text.specs.Written
use Rattle.mac_text.specs.Written.{Blanks, DigitsText, MarkedText, NumberText, SignText, MoreText, TermText, ExpressionText, IndexText, OperandText}
use Rattle.mac_text.specs.Written.{AccumulatorText, OperandsText, PairText, ItemText, PositionText, PointText, allows, before_if, marked_before, sign_before}
use Rattle.mac_text.specs.Written.{sign_character, number_before, number_given, term_before, more_before, expression_before, index_before, indirect_before}
use Rattle.mac_text.specs.Written.{operand_before, accumulator_before, operands_before, pair_before, items_before, position_before, point_before}
use Rattle.mac_text.specs.Written.{expression_literals, expression_given, optional_literals, optional_given, index_expression, operand_literals}
use Rattle.mac_text.specs.Written.{operand_given, accumulator_expression, operands_literals, instruction_given, pair_literals, right_given, items_literals}
use Rattle.mac_text.specs.Written.{items_given}
use Rattle.mac_text.specs.declared.syntax.SignedTerm.{SignedTerm}
use Rattle.mac_text.specs.declared.syntax.Operand.{Operand}
use Rattle.mac_text.specs.declared.syntax.Data.TheVariants as data_of
use Rattle.mac_text.proofs.ItemLemmas.{one_more, no_more}
use Rattle.mac_text.proofs.WordLemmas.{skip_twice}
use Rattle.mac_text.proofs.NumberTexts.{ends_word, word_read}
use Rattle.mac_text.proofs.WrittenTerms.{skip_to, blanks_end, EndsSum, word_begins, digits_are_characters, digits_read, marked_is_read}
use Rattle.mac_text.proofs.WrittenTerms.{expression_read, expression_begins, expression_behind_blanks, longer_term}

-- ---- what comes next

not_begun : (x : List ℕ) → begins_expression x ≡ false → (begins_with 43 x ≡ false) × (begins_with 45 x ≡ false)
not_begun [] h = (refl, refl)
not_begun (c ∷ cs) h =
    let p = or_parts (c == 43) (c == 45 || (c == 94 || (c == 91 || is_name_character c))) h in
    (p.0, (or_parts (c == 45) (c == 94 || (c == 91 || is_name_character c)) p.1).0)

pub begun_not : (b : ℕ) (x : List ℕ) → begins_expression x ≡ true → begins_expression (b ∷ []) ≡ false → begins_with b x ≡ false
begun_not b [] is other = refl
begun_not b (c ∷ cs) is other = ne_eqb c b (λ same. false≢true (sym other ∙ ap (λ k. begins_expression (k ∷ [])) (sym same) ∙ is))

-- what may stand behind an address part
pub record EndsPart (rest : List ℕ) : Type 0 where
  pub word : ends_word rest ≡ true
  pub expression : begins_expression (after_blanks rest) ≡ false
  pub bracket : begins_with 40 (after_blanks rest) ≡ false
  pub at_sign : begins_with 64 (after_blanks rest) ≡ false

pub part_ends_sum : {rest : List ℕ} → EndsPart rest → EndsSum rest
part_ends_sum {rest} end =
    let no = not_begun (after_blanks rest) end.expression in
    record { word = end.word; plus = no.0; minus = no.1 }

-- blanks and a character that ends an expression
pub sum_ends_at : (b : Blanks) (c : ℕ) (x : List ℕ) → is_blank c ≡ false → begins_expression (c ∷ []) ≡ false → EndsSum (b.text ++ c ∷ x)
sum_ends_at b c x firm other =
    let there = skip_to b (c ∷ x) (ap not firm) in
    let signs = not_begun (c ∷ x) other in
    record {
      word =
          blanks_end b (c ∷ x)
          (ap not
          (or_parts (c == 91) (is_name_character c)
          (or_parts (c == 94) (c == 91 || is_name_character c)
          (or_parts (c == 45) (c == 94 || (c == 91 || is_name_character c))
          (or_parts (c == 43) (c == 45 || (c == 94 || (c == 91 || is_name_character c))) other).1).1).1).1);
      plus = ap (begins_with 43) there ∙ signs.0;
      minus = ap (begins_with 45) there ∙ signs.1;
    }

-- ---- blanks before a part do not count

optional_behind_blanks : (s : Scan) → optional_at (skipped s) ≡ optional_at s
unfolding optional_at
optional_behind_blanks s = simp skip_twice

index_behind_blanks : (s : Scan) → index_at (skipped s) ≡ index_at s
unfolding index_at
index_behind_blanks s = simp skip_twice

operand_behind_blanks : (s : Scan) → operand_at (skipped s) ≡ operand_at s
unfolding operand_at
operand_behind_blanks s = simp skip_twice

-- ---- the steps of each reader

optional_some : (s t : Scan) (e : List SignedTerm) → begins_expression (after_blanks s.rest) ≡ true
    → expression_at s ≡ Some (e, t)
    → optional_at s ≡ Some (Some e, t)
unfolding optional_at
optional_some s t e a b = let c = expression_behind_blanks s ∙ b in rw (a, c) refl

pub optional_none : (s : Scan) → begins_expression (after_blanks s.rest) ≡ false → optional_at s ≡ Some (None, skipped s)
unfolding optional_at
optional_none s a = rw a refl

index_none : (s : Scan) → meets 40 s ≡ false → index_at s ≡ Some (None, skipped s)
unfolding index_at
index_none s a = rw a refl

-- the same place, with this text left
abbrev pub left : Scan → List ℕ → Scan
left s rest = record s { rest = rest }

index_some : (s t : Scan) (x y : List ℕ) (e : List SignedTerm) → after_blanks s.rest ≡ 40 ∷ x
    → expression_at (left s x) ≡ Some (e, t) → after_blanks t.rest ≡ 41 ∷ y
    → index_at s ≡ Some (Some e, left t y)
unfolding index_at
index_some s t x y e a b c = rw (a, b, c) refl

operand_direct : (s t u : Scan) (address index : Option (List SignedTerm)) → begins_with 64 (after_blanks s.rest) ≡ false
    → optional_at (skipped s) ≡ Some (address, t)
    → index_at t ≡ Some (index, u)
    → operand_at s ≡ Some (record { indirect = false; address = address; index = index }, u)
unfolding operand_at
operand_direct s t u address index a b c = rw (a, b, c) refl

operand_indirect : (s t u : Scan) (x : List ℕ) (address index : Option (List SignedTerm)) → after_blanks s.rest ≡ 64 ∷ x
    → optional_at (left s x) ≡ Some (address, t)
    → index_at t ≡ Some (index, u)
    → operand_at s ≡ Some (record { indirect = true; address = address; index = index }, u)
unfolding operand_at
operand_indirect s t u x address index a b c = rw (a, b, c) refl

operands_first : (s t u : Scan) (x : List ℕ) (first : List SignedTerm) (operand : Operand) → optional_at s ≡ Some (Some first, t)
    → after_blanks t.rest ≡ 44 ∷ x
    → operand_at (left t x) ≡ Some (operand, u)
    → operands_at s ≡ Some ((Some first, operand), u)
unfolding operands_at
operands_first s t u x first operand a b c = rw (a, b, c) refl

operands_none : (s t u : Scan) (operand : Operand) → optional_at s ≡ Some (None, t) → operand_at t ≡ Some (operand, u)
    → operands_at s ≡ Some ((None, operand), u)
unfolding operands_at
operands_none s t u operand a b = rw (a, b) refl

operands_address : (s t u : Scan) (first : List SignedTerm) (index : Option (List SignedTerm))
    → optional_at s ≡ Some (Some first, t) → begins_with 44 (after_blanks t.rest) ≡ false
    → index_at (skipped t) ≡ Some (index, u)
    → operands_at s ≡ Some ((None, record { indirect = false; address = Some first; index = index }), u)
unfolding operands_at
operands_address s t u first index a b c = rw (a, b, c) refl

instruction_steps : (named : Named) (s t : Scan) (accumulator : Option (List SignedTerm)) (operand : Operand)
    → operands_at s ≡ Some ((accumulator, operand), t)
    → is_allowed named accumulator operand ≡ true
    → instruction_at named s ≡ Some (record { word = named.word; accumulator = accumulator; operand = operand }, t)
unfolding instruction_at
instruction_steps named s t accumulator operand a b = rw (a, b) refl

pair_steps : (s t u : Scan) (x : List ℕ) (l r : List SignedTerm) → expression_at s ≡ Some (l, t) → after_blanks t.rest ≡ 44 ∷ x
    → expression_at (left t x) ≡ Some (r, u)
    → pair_at s ≡ Some ((l, r), u)
unfolding pair_at
pair_steps s t u x l r a b c = rw (a, b, c) refl

next_some : (s t : Scan) (x : List ℕ) (e : List SignedTerm) → after_blanks s.rest ≡ 44 ∷ x
    → expression_at (left s x) ≡ Some (e, t)
    → next_expression_at s ≡ Some (Some e, t)
unfolding next_expression_at
next_some s t x e a b = rw (a, b) refl

next_none : (s : Scan) → begins_with 44 (after_blanks s.rest) ≡ false → next_expression_at s ≡ Some (None, skipped s)
unfolding next_expression_at
next_none s a = rw a refl

expressions_steps : (s t u : Scan) (e : List SignedTerm) (es : List (List SignedTerm)) → expression_at s ≡ Some (e, t)
    → items_at next_expression_at (length t.rest) t ≡ Some (es, u)
    → expressions_at s ≡ Some (e ∷ es, u)
unfolding expressions_at
expressions_steps s t u e es a b = rw (a, b) refl

number_decimal : (s : Scan) (w rest : List ℕ) (n : ℕ) → after_blanks s.rest ≡ w ++ rest → begins_with 94 (w ++ rest) ≡ false
    → word_of (w ++ rest) ≡ w → number_of 10 w ≡ Some n
    → number_at s ≡ Some (n, left s rest)
unfolding number_at decimal_at
number_decimal s w rest n a b c d = rw (a, b, c, d, drop-append_seam w rest) refl

number_marked : (s t : Scan) (x : List ℕ) (n : ℕ) → after_blanks s.rest ≡ 94 ∷ x → marked_at (left s x) ≡ Some (n, t) → number_at s ≡ Some (n, t)
unfolding number_at
number_marked s t x n a b = rw (a, b) refl

point_without : (s t u : Scan) (x : List ℕ) (size : ℕ) (operand : Operand) → number_at s ≡ Some (size, t)
    → after_blanks t.rest ≡ 44 ∷ x → operand_at (left t x) ≡ Some (operand, u)
    → begins_with 44 (after_blanks u.rest) ≡ false
    → point_at s ≡ Some (data_of.Point size operand None, skipped u)
unfolding point_at
point_without s t u x size operand a b c d = rw (a, b, c, d) refl

point_with : (s t u v : Scan) (x y : List ℕ) (size position : ℕ) (operand : Operand) → number_at s ≡ Some (size, t)
    → after_blanks t.rest ≡ 44 ∷ x → operand_at (left t x) ≡ Some (operand, u) → after_blanks u.rest ≡ 44 ∷ y
    → number_at (left u y) ≡ Some (position, v)
    → point_at s ≡ Some (data_of.Point size operand (Some position), v)
unfolding point_at
point_with s t u v x y size position operand a b c d e = rw (a, b, c, d, e) refl

module _ (radix : ℕ) (in_literal : Bool) {L : Type 0} (text_of : L → List ℕ) (small : radix ≤ 10)
    (cut : (l : L) (rest : List ℕ) → (in_literal ≡ false) × (literal_len (text_of l ++ 93 ∷ rest) ≡ Some (length (text_of l)))) where
  abbrev at : List L → List ℕ → Scan
  at earlier rest = record { radix = radix; in_literal = in_literal; cuts = map text_of earlier; rest = rest }

  expression_is_read : (earlier : List L) (e : ExpressionText radix L) (rest : List ℕ) → EndsSum rest
      → expression_at (at earlier (expression_before text_of e rest))
      ≡ Some (expression_given earlier e, at (expression_literals earlier e) (after_blanks rest))
  expression_is_read earlier e rest end = expression_read radix in_literal text_of small cut earlier e rest end

  expression_is_begun : (e : ExpressionText radix L) (rest : List ℕ) → begins_expression (after_blanks (expression_before text_of e rest)) ≡ true
  expression_is_begun e rest = expression_begins radix in_literal text_of small cut e rest

  -- behind blanks stands the character
  behind : (b : Blanks) (c : ℕ) (x : List ℕ) → is_blank c ≡ false → after_blanks (b.text ++ c ∷ x) ≡ c ∷ x
  behind b c x firm = skip_to b (c ∷ x) (ap not firm)

  behind_twice : (b : Blanks) (c : ℕ) (x : List ℕ) → is_blank c ≡ false → after_blanks (after_blanks (b.text ++ c ∷ x)) ≡ c ∷ x
  behind_twice b c x firm = skip_twice (b.text ++ c ∷ x) ∙ behind b c x firm

  -- ---- the register of an address part

  abbrev pub index_rest : Option (IndexText radix L) → List ℕ → List ℕ
  index_rest None rest = after_blanks rest
  index_rest (Some x) rest = rest

  index_read : (earlier : List L) (x : Option (IndexText radix L)) (rest : List ℕ) → EndsPart rest
      → index_at (at earlier (before_if (index_before text_of) x rest))
      ≡ Some
      (optional_given earlier (index_expression x), at (optional_literals earlier (index_expression x)) (index_rest x rest))
  index_read earlier None rest end = index_none (at earlier rest) end.bracket
  index_read earlier (Some x) rest end =
      let tail = x.behind.text ++ 41 ∷ rest in
      index_some (at earlier (index_before text_of x rest)) _ (expression_before text_of x.register tail) rest _
      (behind x.before 40 (expression_before text_of x.register tail) refl)
      (expression_is_read earlier x.register tail (sum_ends_at x.behind 41 rest refl refl)) (behind_twice x.behind 41 rest refl)

  index_ends : (x : Option (IndexText radix L)) (rest : List ℕ) → EndsPart rest
      → EndsSum (before_if (index_before text_of) x rest)
      × (begins_expression (after_blanks (before_if (index_before text_of) x rest)) ≡ false)
      × (begins_with 64 (after_blanks (before_if (index_before text_of) x rest)) ≡ false)
  index_ends None rest end = (part_ends_sum end, end.expression, end.at_sign)
  index_ends (Some x) rest end =
      let tail = expression_before text_of x.register (x.behind.text ++ 41 ∷ rest) in
      let there = behind x.before 40 tail refl in
      (sum_ends_at x.before 40 tail refl refl, ap begins_expression there, ap (begins_with 64) there)

  index_no_comma : (x : Option (IndexText radix L)) (rest : List ℕ) → begins_with 44 (after_blanks rest) ≡ false
      → begins_with 44 (after_blanks (before_if (index_before text_of) x rest)) ≡ false
  index_no_comma None rest h = h
  index_no_comma (Some x) rest h = ap (begins_with 44) (behind x.before 40 (expression_before text_of x.register (x.behind.text ++ 41 ∷ rest)) refl)

  -- ---- address parts

  pub optional_read : (earlier : List L) (e : Option (ExpressionText radix L)) (rest : List ℕ) → EndsSum rest → begins_expression (after_blanks rest) ≡ false
      → optional_at (at earlier (before_if (expression_before text_of) e rest))
      ≡ Some (optional_given earlier e, at (optional_literals earlier e) (after_blanks rest))
  optional_read earlier None rest end other = optional_none (at earlier rest) other
  optional_read earlier (Some e) rest end other =
      optional_some (at earlier (expression_before text_of e rest)) _ _ (expression_is_begun e rest)
      (expression_is_read earlier e rest end)

  no_at_sign : (e : Option (ExpressionText radix L)) (rest : List ℕ) → begins_with 64 (after_blanks rest) ≡ false
      → begins_with 64 (after_blanks (before_if (expression_before text_of) e rest)) ≡ false
  no_at_sign None rest h = h
  no_at_sign (Some e) rest h = begun_not 64 (after_blanks (expression_before text_of e rest)) (expression_is_begun e rest) refl

  operand_case : (earlier : List L) (indirect : Option Blanks) (address : Option (ExpressionText radix L))
      (index : Option (IndexText radix L)) (rest : List ℕ)
      → EndsPart rest
      → operand_at
      (at earlier
      (before_if indirect_before indirect
      (before_if (expression_before text_of) address (before_if (index_before text_of) index rest))))
      ≡ Some (
        record {
          indirect = is_some indirect;
          address = optional_given earlier address;
          index = optional_given (optional_literals earlier address) (index_expression index);
        },
        at (optional_literals (optional_literals earlier address) (index_expression index)) (index_rest index rest),
      )
  operand_case earlier None address index rest end =
      let i = before_if (index_before text_of) index rest in
      let body = before_if (expression_before text_of) address i in
      let ends = index_ends index rest end in
      let later = optional_literals earlier address in
      operand_direct (at earlier body) (at later (after_blanks i)) _ _ _ (no_at_sign address i ends.2)
      (optional_behind_blanks (at earlier body) ∙ optional_read earlier address i ends.0 ends.1)
      (index_behind_blanks (at later i) ∙ index_read later index rest end)
  operand_case earlier (Some b) address index rest end =
      let i = before_if (index_before text_of) index rest in
      let body = before_if (expression_before text_of) address i in
      let ends = index_ends index rest end in
      let later = optional_literals earlier address in
      operand_indirect (at earlier (indirect_before b body)) (at later (after_blanks i)) _ body _ _ (behind b 64 body refl)
      (optional_read earlier address i ends.0 ends.1)
      (index_behind_blanks (at later i) ∙ index_read later index rest end)

  pub operand_read : (earlier : List L) (o : OperandText radix L) (rest : List ℕ) → EndsPart rest
      → operand_at (at earlier (operand_before text_of o rest)) ≡ Some (operand_given earlier o, at (operand_literals earlier o) (index_rest o.index rest))
  operand_read earlier o rest end = operand_case earlier o.indirect o.address o.index rest end

  -- ---- accumulators

  -- what operands without an accumulator come to, by their address part
  direct_case : (earlier : List L) (indirect : Option Blanks) (address : Option (ExpressionText radix L))
      (index : Option (IndexText radix L)) (rest : List ℕ) → EndsPart rest
      → begins_with 44 (after_blanks rest) ≡ false
      → operands_at
      (at earlier
      (before_if indirect_before indirect
      (before_if (expression_before text_of) address (before_if (index_before text_of) index rest))))
      ≡ Some (
        (
          None,
          record {
            indirect = is_some indirect;
            address = optional_given earlier address;
            index = optional_given (optional_literals earlier address) (index_expression index);
          },
        ),
        at (optional_literals (optional_literals earlier address) (index_expression index)) (index_rest index rest),
      )
  direct_case earlier (Some b) address index rest end comma =
      let body = before_if (expression_before text_of) address (before_if (index_before text_of) index rest) in
      let s = at earlier (indirect_before b body) in
      operands_none s (skipped s) _ _ (optional_none s (ap begins_expression (behind b 64 body refl)))
      (operand_behind_blanks s ∙ operand_case earlier (Some b) address index rest end)
  direct_case earlier None None index rest end comma =
      let s = at earlier (before_if (index_before text_of) index rest) in
      operands_none s (skipped s) _ _ (optional_none s (index_ends index rest end).1) (operand_behind_blanks s ∙ operand_case earlier None None index rest end)
  direct_case earlier None (Some e) index rest end comma =
      let i = before_if (index_before text_of) index rest in
      let ends = index_ends index rest end in
      let later = expression_literals earlier e in
      operands_address (at earlier (expression_before text_of e i)) (at later (after_blanks i)) _ _ _ (optional_read earlier (Some e) i ends.0 ends.1)
      (ap (begins_with 44) (skip_twice i) ∙ index_no_comma index rest comma)
      (index_behind_blanks (at later (after_blanks i)) ∙ index_behind_blanks (at later i) ∙ index_read later index rest end)

  operands_case : (earlier : List L) (a : Option (AccumulatorText radix L)) (o : OperandText radix L) (rest : List ℕ)
      → EndsPart rest
      → begins_with 44 (after_blanks rest) ≡ false
      → operands_at (at earlier (before_if (accumulator_before text_of) a (operand_before text_of o rest)))
      ≡ Some (
        (
          optional_given earlier (accumulator_expression a),
          operand_given (optional_literals earlier (accumulator_expression a)) o,
        ),
        at (operand_literals (optional_literals earlier (accumulator_expression a)) o) (index_rest o.index rest),
      )
  operands_case earlier None o rest end comma = direct_case earlier o.indirect o.address o.index rest end comma
  operands_case earlier (Some a) o rest end comma =
      let body = operand_before text_of o rest in
      let tail = a.behind.text ++ 44 ∷ body in
      let later = expression_literals earlier a.register in
      operands_first (at earlier (expression_before text_of a.register tail)) (at later (after_blanks tail)) _ body _ _
      (optional_read earlier (Some a.register) tail (sum_ends_at a.behind 44 body refl refl) (ap begins_expression (behind a.behind 44 body refl)))
      (behind_twice a.behind 44 body refl) (operand_read later o rest end)

  pub operands_read : (earlier : List L) (o : OperandsText radix L) (rest : List ℕ) → EndsPart rest → begins_with 44 (after_blanks rest) ≡ false
      → operands_at (at earlier (operands_before text_of o rest))
      ≡ Some (
        (
          optional_given earlier (accumulator_expression o.accumulator),
          operand_given (optional_literals earlier (accumulator_expression o.accumulator)) o.operand,
        ),
        at (operands_literals earlier o) (index_rest o.operand.index rest),
      )
  operands_read earlier o rest end comma = operands_case earlier o.accumulator o.operand rest end comma

  optional_is_none : (earlier : List L) (e : Option (ExpressionText radix L)) → is_none (optional_given earlier e) ≡ is_none e
  optional_is_none earlier None = refl
  optional_is_none earlier (Some e) = refl

  index_is_none : (earlier : List L) (x : Option (IndexText radix L)) → is_none (optional_given earlier (index_expression x)) ≡ is_none x
  index_is_none earlier None = refl
  index_is_none earlier (Some x) = refl

  accumulator_is_none : (earlier : List L) (a : Option (AccumulatorText radix L)) → is_none (optional_given earlier (accumulator_expression a)) ≡ is_none a
  accumulator_is_none earlier None = refl
  accumulator_is_none earlier (Some a) = refl

  pub instruction_read : (earlier : List L) (named : Named) (o : OperandsText radix L) (rest : List ℕ) → allows named o ≡ true
      → EndsPart rest
      → begins_with 44 (after_blanks rest) ≡ false
      → instruction_at named (at earlier (operands_before text_of o rest))
      ≡ Some (
        record {
          word = named.word;
          accumulator = optional_given earlier (accumulator_expression o.accumulator);
          operand = operand_given (optional_literals earlier (accumulator_expression o.accumulator)) o.operand;
        },
        at (operands_literals earlier o) (index_rest o.operand.index rest),
      )
  instruction_read earlier named o rest allowed end comma =
      let later = optional_literals earlier (accumulator_expression o.accumulator) in
      instruction_steps named _ _ _ _ (operands_read earlier o rest end comma)
      (rw (
        accumulator_is_none earlier o.accumulator,
        optional_is_none later o.operand.address,
        index_is_none (optional_literals later o.operand.address) o.operand.index,
      ) allowed)

  -- ---- pairs and lists

  pub pair_read : (earlier : List L) (p : PairText radix L) (rest : List ℕ) → EndsSum rest
      → pair_at (at earlier (pair_before text_of p rest))
      ≡ Some ((expression_given earlier p.left, right_given earlier p), at (pair_literals earlier p) (after_blanks rest))
  pair_read earlier p rest end =
      let right = expression_before text_of p.right rest in
      let tail = p.behind.text ++ 44 ∷ right in
      pair_steps _ (at (expression_literals earlier p.left) (after_blanks tail)) _ right _ _
      (expression_is_read earlier p.left tail (sum_ends_at p.behind 44 right refl refl)) (behind_twice p.behind 44 right refl)
      (expression_is_read (expression_literals earlier p.left) p.right rest end)

  longer_more : (more : List (MoreText radix L)) (rest : List ℕ) → length rest ≤ length (more_before text_of more rest)
  unfolding more_before
  longer_more [] rest = omega arith
  longer_more (m ∷ ms) rest =
      let x = more_before text_of ms rest in
      let t = term_before text_of m.term x in
      let tail = m.sign.behind.text ++ t in
      omega (
        arith,
        length-append m.before.text (sign_character m.sign.sign ∷ tail),
        length-append m.sign.behind.text t,
        longer_term radix in_literal text_of small cut m.term x,
        longer_more ms rest,
      )

  longer_signed : (sign : Option SignText) (x : List ℕ) → length x ≤ length (before_if sign_before sign x)
  longer_signed None x = omega arith
  longer_signed (Some s) x = omega (arith, length-append s.behind.text x)

  longer_expression : (e : ExpressionText radix L) (rest : List ℕ) → length rest ≤ length (expression_before text_of e rest)
  longer_expression e rest =
      let x = more_before text_of e.more rest in
      let t = term_before text_of e.term x in
      omega (
        arith,
        length-append e.before.text (before_if sign_before e.sign t),
        longer_signed e.sign t,
        longer_term radix in_literal text_of small cut e.term x,
        longer_more e.more rest,
      )

  shorter_behind_blanks : (x : List ℕ) → length (after_blanks x) ≤ length x
  shorter_behind_blanks x = omega (arith, length-drop (prefix_len is_blank x) x)

  items_end : (items : List (ItemText radix L)) (rest : List ℕ) → EndsSum rest → EndsSum (items_before text_of items rest)
  unfolding items_before
  items_end [] rest end = end
  items_end (i ∷ is) rest end = sum_ends_at i.before 44 (expression_before text_of i.value (items_before text_of is rest)) refl refl

  items_read : (n : ℕ) (earlier : List L) (items : List (ItemText radix L)) (rest : List ℕ)
      → length (after_blanks (items_before text_of items rest)) ≤ n → EndsSum rest
      → begins_with 44 (after_blanks rest) ≡ false
      → items_at next_expression_at n (at earlier (after_blanks (items_before text_of items rest)))
      ≡ Some (items_given earlier items, at (items_literals earlier items) (after_blanks rest))
  unfolding items_before items_given items_literals items_at
  items_read zero earlier [] rest le end comma = refl
  items_read (suc n) earlier [] rest le end comma =
      no_more next_expression_at n (at earlier (after_blanks rest)) (at earlier (after_blanks rest))
      (next_none (at earlier (after_blanks rest)) (ap (begins_with 44) (skip_twice rest) ∙ comma)
      ∙ ap (λ x. Some (None, at earlier x)) (skip_twice rest))
  items_read zero earlier (i ∷ is) rest le end comma =
      let x = expression_before text_of i.value (items_before text_of is rest) in
      absurd (omega (arith, ap length (behind i.before 44 x refl)))
  items_read (suc n) earlier (i ∷ is) rest le end comma =
      let y = items_before text_of is rest in
      let x = expression_before text_of i.value y in
      one_more next_expression_at n (at earlier (after_blanks (i.before.text ++ 44 ∷ x)))
      (at (expression_literals earlier i.value) (after_blanks y)) _ _ _
      (next_some (at earlier (after_blanks (i.before.text ++ 44 ∷ x))) _ x _ (behind_twice i.before 44 x refl)
      (expression_is_read earlier i.value y (items_end is rest end)))
      (items_read n (expression_literals earlier i.value) is rest
      (omega (arith, ap length (behind i.before 44 x refl), longer_expression i.value y, shorter_behind_blanks y)) end comma)

  pub list_read : (earlier : List L) (e : ExpressionText radix L) (items : List (ItemText radix L)) (rest : List ℕ) → EndsSum rest
      → begins_with 44 (after_blanks rest) ≡ false
      → expressions_at (at earlier (expression_before text_of e (items_before text_of items rest)))
      ≡ Some (
        expression_given earlier e ∷ items_given (expression_literals earlier e) items,
        at (items_literals (expression_literals earlier e) items) (after_blanks rest),
      )
  list_read earlier e items rest end comma =
      let y = items_before text_of items rest in
      expressions_steps _ (at (expression_literals earlier e) (after_blanks y)) _ _ _
      (expression_is_read earlier e y (items_end items rest end))
      (items_read (length (after_blanks y)) (expression_literals earlier e) items rest (omega arith) end comma)

  -- ---- numbers

  pub number_read : (earlier : List L) (n : NumberText) (rest : List ℕ) → ends_word rest ≡ true
      → number_at (at earlier (number_before n rest)) ≡ Some (number_given n, at earlier rest)
  number_read earlier (Written.Decimal before digits) rest e =
      let characters = digits_are_characters 10 digits.text (omega arith) digits.digits in
      let begin = word_begins digits.text rest digits.some characters in
      let word = word_read digits.text rest characters e in
      number_decimal (at earlier (before.text ++ (digits.text ++ rest))) digits.text rest _
      (skip_to before (digits.text ++ rest) begin.firm) (begin.other 94 refl) word
      (sym (ap (number_of 10) word) ∙ digits_read digits rest (omega arith) e)
  number_read earlier (Written.Marked before m) rest e =
      number_marked (at earlier (before.text ++ marked_before m rest)) _ (m.letter ∷ (m.digits.text ++ rest)) _
      (behind before 94 (m.letter ∷ (m.digits.text ++ rest)) refl)
      (marked_is_read radix in_literal text_of small cut earlier m rest e)

  -- ---- POINT

  abbrev pub behind_position : Option PositionText → OperandText radix L → List ℕ → List ℕ
  behind_position None o rest = after_blanks (index_rest o.index rest)
  behind_position (Some position) o rest = rest

  abbrev pub point_rest : PointText radix L → List ℕ → List ℕ
  point_rest p rest = behind_position p.position p.operand rest

  part_ends_at : (b : Blanks) (x : List ℕ) → EndsPart (b.text ++ 44 ∷ x)
  part_ends_at b x =
      let there = behind b 44 x refl in
      record {
        word = (sum_ends_at b 44 x refl refl).word;
        expression = ap begins_expression there;
        bracket = ap (begins_with 40) there;
        at_sign = ap (begins_with 64) there;
      }

  pub index_rest_blanks : (x : Option (IndexText radix L)) (rest : List ℕ) → after_blanks (index_rest x rest) ≡ after_blanks rest
  index_rest_blanks None rest = skip_twice rest
  index_rest_blanks (Some x) rest = refl

  point_case : (size : NumberText) (b : Blanks) (o : OperandText radix L) (position : Option PositionText) (rest : List ℕ)
      → EndsPart rest
      → begins_with 44 (after_blanks rest) ≡ false
      → point_at (at [] (number_before size (b.text ++ 44 ∷ operand_before text_of o (before_if position_before position rest))))
      ≡ Some (
        data_of.Point (number_given size) (operand_given [] o) (option_map (λ p. number_given p.number) position),
        at (operand_literals [] o) (behind_position position o rest),
      )
  point_case size b o None rest end comma =
      let body = operand_before text_of o rest in
      point_without _ (at [] (b.text ++ 44 ∷ body)) (at (operand_literals [] o) (index_rest o.index rest)) body _ _
      (number_read [] size (b.text ++ 44 ∷ body) (blanks_end b (44 ∷ body) refl)) (behind b 44 body refl)
      (operand_read [] o rest end)
      (ap (begins_with 44) (index_rest_blanks o.index rest) ∙ comma)
  point_case size b o (Some p) rest end comma =
      let tail = p.before.text ++ 44 ∷ number_before p.number rest in
      let body = operand_before text_of o tail in
      point_with _ (at [] (b.text ++ 44 ∷ body)) (at (operand_literals [] o) (index_rest o.index tail)) _ body
      (number_before p.number rest) _ _ _ (number_read [] size (b.text ++ 44 ∷ body) (blanks_end b (44 ∷ body) refl))
      (behind b 44 body refl) (operand_read [] o tail (part_ends_at p.before (number_before p.number rest)))
      (index_rest_blanks o.index tail ∙ behind p.before 44 (number_before p.number rest) refl) (number_read (operand_literals [] o) p.number rest end.word)

  pub point_read : (p : PointText radix L) (rest : List ℕ) → EndsPart rest → begins_with 44 (after_blanks rest) ≡ false
      → point_at (at [] (point_before text_of p rest))
      ≡ Some (
        data_of.Point (number_given p.size) (operand_given [] p.operand) (option_map (λ x. number_given x.number) p.position),
        at (operand_literals [] p.operand) (point_rest p rest),
      )
  point_read p rest end comma = point_case p.size p.behind p.operand p.position rest end comma

  pub point_rest_blanks : (p : PointText radix L) (rest : List ℕ) → after_blanks (point_rest p rest) ≡ after_blanks rest
  point_rest_blanks p rest = by_position p.position p.operand rest
    where
      by_position : (position : Option PositionText) (o : OperandText radix L) (rest : List ℕ)
          → after_blanks (behind_position position o rest) ≡ after_blanks rest
      by_position None o rest = skip_twice (index_rest o.index rest) ∙ index_rest_blanks o.index rest
      by_position (Some p) o rest = refl
