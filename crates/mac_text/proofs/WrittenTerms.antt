-- Terms and expressions are read as they are written.
use Rattle.std.proofs.Common.{◌≡◌, ℕ, zero, suc, ◌+◌, ◌<◌, ◌≤◌, ◌==◌, not, List, [], ◌∷◌, ◌++◌, Option, Some, None, Bool, true}
use Rattle.std.proofs.Common.{false, length, length-append, map, drop, refl, sym, ap, ◌∙◌, arith}
use Rattle.std.specs.Prelude.{unwrap_or, ◌||◌}
use Rattle.std.specs.List.{list_all, prefix_len}
use Rattle.std.proofs.lemmas.Bool.{and_parts, not-true, ne_eqb, false≢true}
use Rattle.std.proofs.lemmas.Bool.Decides.{nat_tests}
use Rattle.std.proofs.lemmas.List.{length-map}
use Rattle.std.proofs.Math.Seq.{take-append_seam, drop-append_seam}
use Rattle.whole_numbers.specs.Numerals.{digits_value}
use Rattle.mac_text.specs.Characters.{is_blank, is_name_character}
use Rattle.mac_text.specs.Names.{is_name, symbol_of}
use Rattle.mac_text.specs.Numbers.{is_digit_of, number_of}
use Rattle.mac_text.specs.Scan.{Scan, after_blanks, skipped, begins_with, begins_expression, word_of, items_at}
use Rattle.mac_text.specs.Texts.{literal_len}
use Rattle.mac_text.specs.Expressions.{radix_of_mark, term_of_word, word_term_at, marked_at, literal_at, term_at}
use Rattle.mac_text.specs.Expressions.{sign_at, signed_at, next_term_at, expression_at}
use Rattle.mac_text.specs.Written
use Rattle.mac_text.specs.Written.{Blanks, NameText, DigitsText, MarkedText, TermText, SignText, MoreText, ExpressionText, marked_before, marked_number}
use Rattle.mac_text.specs.Written.{before_if, sign_character, sign_before, sign_given, term_before, more_before, expression_before, term_literals}
use Rattle.mac_text.specs.Written.{term_given, more_literals, more_given, expression_literals, expression_given}
use Rattle.mac_text.specs.declared.syntax.Sign.{Sign}
use Rattle.mac_text.specs.declared.syntax.Sign.TheVariants.{Plus, Minus}
use Rattle.mac_text.specs.declared.syntax.Term.{Term}
use Rattle.mac_text.specs.declared.syntax.Term.TheVariants as terms
use Rattle.mac_text.specs.declared.syntax.SignedTerm.{SignedTerm}
use Rattle.mac_text.proofs.ItemLemmas.{one_more, no_more}
use Rattle.mac_text.proofs.WordLemmas.{skip_twice}
use Rattle.mac_text.proofs.DigitLemmas.{digit_is_digit, digit_names, digits_term}
use Rattle.mac_text.proofs.NumberTexts.{ends_word, word_read}

-- ---- blanks

-- a text that begins with no blank
abbrev pub is_firm : List ℕ → Bool
is_firm [] = true
is_firm (c ∷ cs) = not (is_blank c)

blanks_skipped : (bs x : List ℕ) → list_all is_blank bs ≡ true → after_blanks (bs ++ x) ≡ after_blanks x
blanks_skipped [] x h = refl
blanks_skipped (b ∷ bs) x h =
    let p = and_parts (is_blank b) (list_all is_blank bs) h in
    let more : 1 + prefix_len is_blank (bs ++ x) ≡ suc (prefix_len is_blank (bs ++ x)) = omega arith in
    rw (p.0, more) (blanks_skipped bs x p.1)

pub firm_stays : (x : List ℕ) → is_firm x ≡ true → after_blanks x ≡ x
firm_stays [] h = refl
firm_stays (c ∷ cs) h = rw (not-true (is_blank c) h) refl

pub skip_blanks : (b : Blanks) (x : List ℕ) → after_blanks (b.text ++ x) ≡ after_blanks x
skip_blanks b x = blanks_skipped b.text x b.blank

pub skip_to : (b : Blanks) (x : List ℕ) → is_firm x ≡ true → after_blanks (b.text ++ x) ≡ x
skip_to b x h = skip_blanks b x ∙ firm_stays x h

blank_is_no_character : (c : ℕ) → is_blank c ≡ true → is_name_character c ≡ false
blank_is_no_character c h = grind (arith, nat_tests)

character_is_no_blank : (c : ℕ) → is_name_character c ≡ true → is_blank c ≡ false
character_is_no_blank c h = grind (arith, nat_tests)

ends_behind : (bs x : List ℕ) → list_all is_blank bs ≡ true → ends_word x ≡ true → ends_word (bs ++ x) ≡ true
ends_behind [] x h e = e
ends_behind (b ∷ bs) x h e = rw (blank_is_no_character b (and_parts (is_blank b) (list_all is_blank bs) h).0) refl

-- blanks part a word from what stands behind it
pub blanks_end : (b : Blanks) (x : List ℕ) → ends_word x ≡ true → ends_word (b.text ++ x) ≡ true
blanks_end b x e = ends_behind b.text x b.blank e

-- ---- words

-- a text that begins with a word
pub record BeginsWord (x : List ℕ) : Type 0 where
  pub firm : is_firm x ≡ true
  pub expression : begins_expression x ≡ true
  pub other : (b : ℕ) → is_name_character b ≡ false → begins_with b x ≡ false

pub word_begins : (w rest : List ℕ) → 0 < length w → list_all is_name_character w ≡ true → BeginsWord (w ++ rest)
word_begins [] rest some h = absurd (omega arith)
word_begins (c ∷ cs) rest some h =
    let is = (and_parts (is_name_character c) (list_all is_name_character cs) h).0 in
    record {
      firm = rw (character_is_no_blank c is) refl;
      expression = begins c is;
      other = λ b no. ne_eqb c b (λ same. false≢true (sym no ∙ ap is_name_character (sym same) ∙ is));
    }
  where
    begins : (c : ℕ) → is_name_character c ≡ true → (c == 43 || (c == 45 || (c == 94 || (c == 91 || is_name_character c)))) ≡ true
    begins c is = grind (arith, nat_tests)

pub digits_are_characters : (radix : ℕ) (ds : List ℕ) → radix ≤ 10 → list_all (is_digit_of radix) ds ≡ true → list_all is_name_character ds ≡ true
digits_are_characters radix [] small h = refl
digits_are_characters radix (d ∷ ds) small h =
    let p = and_parts (is_digit_of radix d) (list_all (is_digit_of radix) ds) h in
    rw (digit_names d (digit_is_digit radix d small p.0), digits_are_characters radix ds small p.1) refl

pub name_some : (name : List ℕ) → is_name name ≡ true → 0 < length name
name_some [] h = absurd (false≢true h)
name_some (c ∷ cs) h = omega arith

number_of_digits : (radix : ℕ) (ds : List ℕ) → 0 < length ds → list_all (is_digit_of radix) ds ≡ true → number_of radix ds ≡ Some (digits_value radix ds)
unfolding number_of
number_of_digits radix ds some h = let there = ne_eqb (length ds) 0 (λ e. omega (arith, e)) in rw (there, h) refl

-- digits are read as their number
pub digits_read : {radix : ℕ} (digits : DigitsText radix) (rest : List ℕ) → radix ≤ 10 → ends_word rest ≡ true
    → number_of radix (word_of (digits.text ++ rest)) ≡ Some (digits_value radix digits.text)
digits_read {radix} digits rest small e =
    ap (number_of radix) (word_read digits.text rest (digits_are_characters radix digits.text small digits.digits) e)
    ∙ number_of_digits radix digits.text digits.some digits.digits

mark_is_small : (c radix : ℕ) → radix_of_mark (Some c) ≡ Some radix → radix ≤ 10
mark_is_small c radix h = grind (arith, nat_tests)

pub marked_small : (m : MarkedText) → m.radix ≤ 10
marked_small m = mark_is_small m.letter m.radix m.marks

-- ---- terms

map_one_more : {X Y : Type 0} (f : X → Y) (xs : List X) (x : X) → map f (xs ++ x ∷ []) ≡ map f xs ++ f x ∷ []
map_one_more f [] x = refl
map_one_more f (y ∷ ys) x = ap (λ l. f y ∷ l) (map_one_more f ys x)

pub drop_further : (xs : List ℕ) (y : ℕ) (ys : List ℕ) → drop (length xs + 1) (xs ++ y ∷ ys) ≡ ys
drop_further [] y ys = refl
drop_further (x ∷ xs) y ys = let one : length (x ∷ xs) + 1 ≡ suc (length xs + 1) = omega arith in rw one (drop_further xs y ys)

-- what may stand behind an expression
pub record EndsSum (rest : List ℕ) : Type 0 where
  pub word : ends_word rest ≡ true
  pub plus : begins_with 43 (after_blanks rest) ≡ false
  pub minus : begins_with 45 (after_blanks rest) ≡ false

module _ (radix : ℕ) (in_literal : Bool) {L : Type 0} (text_of : L → List ℕ) (small : radix ≤ 10)
    (cut : (l : L) (rest : List ℕ) → (in_literal ≡ false) × (literal_len (text_of l ++ 93 ∷ rest) ≡ Some (length (text_of l)))) where
  -- a place in a line, behind these literals
  abbrev pub at : List L → List ℕ → Scan
  at earlier rest = record { radix = radix; in_literal = in_literal; cuts = map text_of earlier; rest = rest }

  word_is_read : (earlier : List L) (text w rest : List ℕ) (term : Term) → after_blanks text ≡ w ++ rest → 0 < length w
      → list_all is_name_character w ≡ true → ends_word rest ≡ true
      → term_of_word radix w ≡ Some term
      → term_at (at earlier text) ≡ Some (term, at earlier rest)
  unfolding term_at word_term_at
  word_is_read earlier text w rest term a some h e is =
      let begin = word_begins w rest some h in
      simp (a, firm_stays (w ++ rest) begin.firm, begin.other 91 refl, begin.other 94 refl, word_read w rest h e, is, drop-append_seam w rest)

  pub marked_is_read : (earlier : List L) (m : MarkedText) (rest : List ℕ) → ends_word rest ≡ true
      → marked_at (at earlier (m.letter ∷ (m.digits.text ++ rest))) ≡ Some (marked_number m, at earlier rest)
  unfolding marked_at
  marked_is_read earlier m rest e =
      let h = digits_are_characters m.radix m.digits.text (marked_small m) m.digits.digits in
      simp (
        m.marks,
        word_read m.digits.text rest h e,
        number_of_digits m.radix m.digits.text m.digits.some m.digits.digits,
        drop-append_seam m.digits.text rest,
      )

  mark_is_read : (earlier : List L) (text : List ℕ) (m : MarkedText) (rest : List ℕ) → after_blanks text ≡ marked_before m rest → ends_word rest ≡ true
      → term_at (at earlier text) ≡ Some (terms.Number (marked_number m), at earlier rest)
  unfolding term_at
  mark_is_read earlier text m rest a e = rw (a, marked_is_read earlier m rest e) refl

  literal_is_read : (earlier : List L) (text : List ℕ) (l : L) (rest : List ℕ) → after_blanks text ≡ 91 ∷ (text_of l ++ 93 ∷ rest)
      → term_at (at earlier text) ≡ Some (terms.Literal (length earlier), at (earlier ++ l ∷ []) rest)
  unfolding term_at literal_at
  literal_is_read earlier text l rest a =
      let c = cut l rest in
      rw (
        a,
        c.0,
        c.1,
        take-append_seam (text_of l) (93 ∷ rest),
        drop_further (text_of l) 93 rest,
        length-map earlier text_of,
        map_one_more text_of earlier l,
      ) refl

  point_is_read : (earlier : List L) (text rest : List ℕ) → after_blanks text ≡ 46 ∷ rest → ends_word rest ≡ true
      → term_at (at earlier text) ≡ Some (terms.Here, at earlier rest)
  point_is_read earlier text rest a e = word_is_read earlier text (46 ∷ []) rest terms.Here a (omega arith) refl e refl

  -- how a term begins
  pub record BeginsTerm (x : List ℕ) : Type 0 where
    pub firm : is_firm x ≡ true
    pub plus : begins_with 43 x ≡ false
    pub minus : begins_with 45 x ≡ false
    pub expression : begins_expression x ≡ true

  of_word : (w rest : List ℕ) → 0 < length w → list_all is_name_character w ≡ true → BeginsTerm (w ++ rest)
  of_word w rest some h =
      let begin = word_begins w rest some h in
      record { firm = begin.firm; plus = begin.other 43 refl; minus = begin.other 45 refl; expression = begin.expression }

  pub term_begins : (t : TermText radix L) (rest : List ℕ) → BeginsTerm (term_before text_of t rest)
  term_begins (Written.Number digits) rest = of_word digits.text rest digits.some (digits_are_characters radix digits.text small digits.digits)
  term_begins (Written.Marked m) rest = record { firm = refl; plus = refl; minus = refl; expression = refl }
  term_begins (Written.Label name) rest = of_word name.text rest (name_some name.text name.names) name.characters
  term_begins Written.Point rest = record { firm = refl; plus = refl; minus = refl; expression = refl }
  term_begins (Written.Literal l) rest = record { firm = refl; plus = refl; minus = refl; expression = refl }

  label_of_name : (name : NameText) → term_of_word radix name.text ≡ Some (terms.Label (symbol_of name.text))
  label_of_name name = rw name.names refl

  pub term_read : (earlier : List L) (text : List ℕ) (t : TermText radix L) (rest : List ℕ)
      → after_blanks text ≡ term_before text_of t rest
      → ends_word rest ≡ true
      → term_at (at earlier text) ≡ Some (term_given earlier t, at (term_literals earlier t) rest)
  term_read earlier text (Written.Number digits) rest a e =
      word_is_read earlier text digits.text rest _ a digits.some (digits_are_characters radix digits.text small digits.digits) e
      (digits_term radix digits.text small digits.some digits.digits)
  term_read earlier text (Written.Marked m) rest a e = mark_is_read earlier text m rest a e
  term_read earlier text (Written.Label name) rest a e =
      word_is_read earlier text name.text rest _ a (name_some name.text name.names) name.characters e (label_of_name name)
  term_read earlier text Written.Point rest a e = point_is_read earlier text rest a e
  term_read earlier text (Written.Literal l) rest a e = literal_is_read earlier text l rest a

  -- ---- signs

  sign_is_firm : (sign : Sign) (x : List ℕ)
      → (is_firm (sign_character sign ∷ x) ≡ true) × (ends_word (sign_character sign ∷ x) ≡ true)
      × (begins_expression (sign_character sign ∷ x) ≡ true)
  sign_is_firm Plus x = (refl, refl, refl)
  sign_is_firm Minus x = (refl, refl, refl)

  sign_is_read : (sign : Sign) (earlier : List L) (text x : List ℕ) → after_blanks text ≡ sign_character sign ∷ x
      → sign_at (at earlier text) ≡ (Some sign, at earlier x)
  unfolding sign_at
  sign_is_read Plus earlier text x a = rw a refl
  sign_is_read Minus earlier text x a = rw a refl

  pub no_sign_read : (earlier : List L) (text x : List ℕ) → after_blanks text ≡ x → is_firm x ≡ true → begins_with 43 x ≡ false
      → begins_with 45 x ≡ false
      → sign_at (at earlier text) ≡ (None, at earlier x)
  unfolding sign_at
  no_sign_read earlier text x a firm plus minus = simp (a, firm_stays x firm, plus, minus)

  no_sign_behind : (earlier : List L) (rest : List ℕ) → EndsSum rest → next_term_at (at earlier rest) ≡ Some (None, at earlier (after_blanks rest))
  unfolding next_term_at sign_at
  no_sign_behind earlier rest end = simp (skip_twice rest, end.plus, end.minus)

  -- ---- expressions

  pub longer_term : (t : TermText radix L) (rest : List ℕ) → length rest ≤ length (term_before text_of t rest)
  longer_term (Written.Number digits) rest = omega (arith, length-append digits.text rest)
  longer_term (Written.Marked m) rest = omega (arith, length-append m.digits.text rest)
  longer_term (Written.Label name) rest = omega (arith, length-append name.text rest)
  longer_term Written.Point rest = omega arith
  longer_term (Written.Literal l) rest = omega (arith, length-append (text_of l) (93 ∷ rest))

  pub more_end : (more : List (MoreText radix L)) (rest : List ℕ) → ends_word rest ≡ true → ends_word (more_before text_of more rest) ≡ true
  unfolding more_before
  more_end [] rest e = e
  more_end (m ∷ ms) rest e =
      let tail = m.sign.behind.text ++ term_before text_of m.term (more_before text_of ms rest) in
      blanks_end m.before (sign_character m.sign.sign ∷ tail) (sign_is_firm m.sign.sign tail).1

  next_is_read : (earlier : List L) (m : MoreText radix L) (x : List ℕ) → ends_word x ≡ true
      → next_term_at (at earlier (m.before.text ++ sign_before m.sign (term_before text_of m.term x)))
      ≡ Some (Some (record { sign = m.sign.sign; term = term_given earlier m.term }), at (term_literals earlier m.term) x)
  unfolding next_term_at signed_at
  next_is_read earlier m x e =
      let tail = m.sign.behind.text ++ term_before text_of m.term x in
      let there =
      sign_is_read m.sign.sign earlier (m.before.text ++ sign_character m.sign.sign ∷ tail) tail
      (skip_to m.before _ (sign_is_firm m.sign.sign tail).0) in
      let term = term_read earlier tail m.term x (skip_to m.sign.behind _ (term_begins m.term x).firm) e in
      rw (there, term) refl

  more_read : (n : ℕ) (earlier : List L) (more : List (MoreText radix L)) (rest : List ℕ) → length (more_before text_of more rest) ≤ n → EndsSum rest
      → items_at next_term_at n (at earlier (more_before text_of more rest))
      ≡ Some (more_given earlier more, at (more_literals earlier more) (after_blanks rest))
  unfolding more_before more_given more_literals items_at
  more_read zero earlier [] [] le end = refl
  more_read zero earlier [] (c ∷ cs) le end = absurd (omega arith)
  more_read (suc n) earlier [] rest le end = no_more next_term_at n _ _ (no_sign_behind earlier rest end)
  more_read zero earlier (m ∷ ms) rest le end =
      let tail = m.sign.behind.text ++ term_before text_of m.term (more_before text_of ms rest) in
      absurd (omega (arith, length-append m.before.text (sign_character m.sign.sign ∷ tail)))
  more_read (suc n) earlier (m ∷ ms) rest le end =
      let x = more_before text_of ms rest in
      let tail = m.sign.behind.text ++ term_before text_of m.term x in
      one_more next_term_at n _ _ _ _ _ (next_is_read earlier m x (more_end ms rest end.word))
      (more_read n (term_literals earlier m.term) ms rest
      (omega (
        arith,
        length-append m.before.text (sign_character m.sign.sign ∷ tail),
        length-append m.sign.behind.text (term_before text_of m.term x),
        longer_term m.term x,
      )) end)

  expression_steps : (s t u v : Scan) (sign : Option Sign) (term : Term) (more : List SignedTerm) → sign_at s ≡ (sign, t)
      → term_at t ≡ Some (term, u)
      → items_at next_term_at (length u.rest) u ≡ Some (more, v)
      → expression_at s ≡ Some (record { sign = unwrap_or sign Plus; term = term } ∷ more, v)
  unfolding expression_at signed_at
  expression_steps s t u v sign term more a b c = rw (a, b, c) refl

  expression_case : (earlier : List L) (before : Blanks) (sign : Option SignText) (t : TermText radix L)
      (more : List (MoreText radix L)) (rest : List ℕ)
      → EndsSum rest
      → expression_at (at earlier (before.text ++ before_if sign_before sign (term_before text_of t (more_before text_of more rest))))
      ≡ Some (
        record { sign = sign_given sign; term = term_given earlier t } ∷ more_given (term_literals earlier t) more,
        at (more_literals (term_literals earlier t) more) (after_blanks rest),
      )
  expression_case earlier before None t more rest end =
      let x = more_before text_of more rest in
      let begin = term_begins t x in
      expression_steps _ _ _ _ None _ _ (no_sign_read earlier _ (term_before text_of t x) (skip_to before _ begin.firm) begin.firm begin.plus begin.minus)
      (term_read earlier (term_before text_of t x) t x (firm_stays _ begin.firm) (more_end more rest end.word))
      (more_read (length x) (term_literals earlier t) more rest (omega arith) end)
  expression_case earlier before (Some s) t more rest end =
      let x = more_before text_of more rest in
      let begin = term_begins t x in
      let tail = s.behind.text ++ term_before text_of t x in
      expression_steps _ _ _ _ (Some s.sign) _ _
      (sign_is_read s.sign earlier (before.text ++ sign_character s.sign ∷ tail) tail
      (skip_to before (sign_character s.sign ∷ tail) (sign_is_firm s.sign tail).0))
      (term_read earlier tail t x (skip_to s.behind _ begin.firm) (more_end more rest end.word))
      (more_read (length x) (term_literals earlier t) more rest (omega arith) end)

  -- an expression is read as it is written
  pub expression_read : (earlier : List L) (e : ExpressionText radix L) (rest : List ℕ) → EndsSum rest
      → expression_at (at earlier (expression_before text_of e rest))
      ≡ Some (expression_given earlier e, at (expression_literals earlier e) (after_blanks rest))
  expression_read earlier e rest end = expression_case earlier e.before e.sign e.term e.more rest end

  begins_case : (sign : Option SignText) (t : TermText radix L) (x : List ℕ)
      → (is_firm (before_if sign_before sign (term_before text_of t x)) ≡ true)
      × (begins_expression (before_if sign_before sign (term_before text_of t x)) ≡ true)
  begins_case None t x = let begin = term_begins t x in (begin.firm, begin.expression)
  begins_case (Some s) t x = let is = sign_is_firm s.sign (s.behind.text ++ term_before text_of t x) in (is.0, is.2)

  -- and begins as one
  pub expression_begins : (e : ExpressionText radix L) (rest : List ℕ) → begins_expression (after_blanks (expression_before text_of e rest)) ≡ true
  expression_begins e rest =
      let is = begins_case e.sign e.term (more_before text_of e.more rest) in
      ap begins_expression (skip_to e.before _ is.0) ∙ is.1

-- the blanks before an expression do not count
pub expression_behind_blanks : (s : Scan) → expression_at (skipped s) ≡ expression_at s
unfolding expression_at sign_at
expression_behind_blanks s = simp skip_twice
