-- The terms of an expression.
use Rattle.std.proofs.Common.{◌≡◌, ℕ, List, [], ◌∷◌, ◌==◌, Option, Some, None, false, length, drop, refl, ap, ◌∙◌}
use Rattle.std.specs.Prelude.{◌||◌, option_map}
use Rattle.std.proofs.lemmas.Bool.{or_parts, eqb-true, false_from_ne_true}
use Rattle.mac_text.specs.Characters.{is_name_character}
use Rattle.mac_text.specs.Numbers.{number_of}
use Rattle.mac_text.specs.Scan.{Scan, skipped, without, after_blanks, begins_with, word_of, meets, items_at}
use Rattle.mac_text.specs.Terms.{alone}
use Rattle.mac_text.specs.Expressions.{term_of_word, word_term_at, term_at, signed_at, first_at, sign_at, next_term_at}
use Rattle.mac_text.specs.declared.syntax.Sign.{Sign}
use Rattle.mac_text.specs.declared.syntax.Term.{Term}
use Rattle.mac_text.specs.declared.syntax.SignedTerm.{SignedTerm}
use Rattle.mac_text.proofs.WordLemmas.{skip_twice}

-- ---- the first

no_word : (b c : ℕ) (cs : List ℕ) → is_name_character b ≡ false → c ≡ b → word_of (c ∷ cs) ≡ []
no_word b c cs h e = rw (e, h) refl

no_term : (radix : ℕ) (sign : Sign) (word : List ℕ) (e : List SignedTerm) → word ≡ [] → option_map (alone sign) (term_of_word radix word) ≡ Some e → ⊥
unfolding number_of
no_term radix sign word e empty is = let none = rw empty at is in cc

-- a word comes next, and no mark
not_mark : (b radix : ℕ) (sign : Sign) (text : List ℕ) (e : List SignedTerm) → is_name_character b ≡ false
    → option_map (alone sign) (term_of_word radix (word_of text)) ≡ Some e
    → begins_with b text ≡ false
not_mark b radix sign [] e h is = refl
not_mark b radix sign (c ∷ cs) e h is = false_from_ne_true (c == b) (λ same. no_term radix sign (word_of (c ∷ cs)) e (no_word b c cs h (eqb-true c b same)) is)

term_is : (s : Scan) (term : Term) → begins_with 91 (after_blanks s.rest) ≡ false → begins_with 94 (after_blanks s.rest) ≡ false
    → term_of_word s.radix (word_of (after_blanks s.rest)) ≡ Some term
    → term_at s ≡ Some (term, without (length (word_of (after_blanks s.rest))) (skipped s))
unfolding term_at word_term_at
term_is s term bracket arrow is = simp (bracket, arrow, skip_twice, is)

first_is : (sign : Sign) (s t : Scan) (term : Term) → term_at s ≡ Some (term, t) → first_at sign s ≡ Some (alone sign term, t)
unfolding signed_at
first_is sign s t term is = rw is refl

of_word : (sign : Sign) (s : Scan) (e : List SignedTerm) (read : Option Term) → begins_with 91 (after_blanks s.rest) ≡ false
    → begins_with 94 (after_blanks s.rest) ≡ false → term_of_word s.radix (word_of (after_blanks s.rest)) ≡ read
    → option_map (alone sign) read ≡ Some e
    → first_at sign s ≡ Some (e, without (length (word_of (after_blanks s.rest))) (skipped s))
of_word sign s e None bracket arrow here is = cc
of_word sign s e (Some term) bracket arrow here is =
    let t = without (length (word_of (after_blanks s.rest))) (skipped s) in
    let same : alone sign term ≡ e = cc in
    first_is sign s t term (term_is s term bracket arrow here) ∙ ap (λ x. Some (x, t)) same

-- a term that is a word
pub lone_read : (sign : Sign) (s : Scan) (e : List SignedTerm)
    → option_map (alone sign) (term_of_word s.radix (word_of (after_blanks s.rest))) ≡ Some e
    → first_at sign s ≡ Some (e, without (length (word_of (after_blanks s.rest))) (skipped s))
lone_read sign s e is =
    of_word sign s e (term_of_word s.radix (word_of (after_blanks s.rest)))
    (not_mark 91 s.radix sign (after_blanks s.rest) e refl is) (not_mark 94 s.radix sign (after_blanks s.rest) e refl is) refl is

pub lone_at : (sign : Sign) (s : Scan) (e : List SignedTerm) (n : ℕ) → after_blanks s.rest ≡ s.rest → length (word_of s.rest) ≡ n
    → option_map (alone sign) (term_of_word s.radix (word_of s.rest)) ≡ Some e
    → first_at sign s ≡ Some (e, without n s)
lone_at sign s e n here long is =
    let read = lone_read sign s e (ap (λ t. option_map (alone sign) (term_of_word s.radix (word_of t))) here ∙ is) in
    let behind = ap (λ t. record s { rest = drop (length (word_of t)) t }) here ∙ ap (λ k. record s { rest = drop k s.rest }) long in
    read ∙ ap (λ t. Some (e, t)) behind

-- the blanks before a term do not count
pub first_behind_blanks : (sign : Sign) (s : Scan) → first_at sign (skipped s) ≡ first_at sign s
unfolding signed_at term_at
first_behind_blanks sign s = simp skip_twice

-- ---- the others

no_sign : (s : Scan) → meets 43 s ≡ false → meets 45 s ≡ false → next_term_at s ≡ Some (None, skipped s)
unfolding sign_at next_term_at
no_sign s plus minus = simp (plus, skip_twice, minus)

no_terms : (s : Scan) (text : List ℕ) → s.rest ≡ text → next_term_at s ≡ Some (None, skipped s) → items_at next_term_at (length s.rest) s ≡ Some ([], skipped s)
unfolding items_at
no_terms s [] e step = rw e refl
no_terms s (c ∷ cs) e step = rw (ap length e, step) refl

-- where no sign comes next there is no further term
pub no_more_terms : (s : Scan) → (meets 43 s || meets 45 s) ≡ false → items_at next_term_at (length s.rest) s ≡ Some ([], skipped s)
no_more_terms s none =
    let signs = or_parts (meets 43 s) (meets 45 s) none in
    no_terms s s.rest refl (no_sign s signs.0 signs.1)

next_behind_blanks : (s : Scan) → next_term_at (skipped s) ≡ next_term_at s
unfolding sign_at next_term_at
next_behind_blanks s = simp skip_twice

more_from : (s : Scan) (text : List ℕ) → s.rest ≡ text → next_term_at (skipped s) ≡ next_term_at s
    → items_at next_term_at (length s.rest) (skipped s) ≡ items_at next_term_at (length s.rest) s
unfolding items_at
more_from s [] e step = rw e refl
more_from s (c ∷ cs) e step = rw (ap length e, step) refl

-- nor do those before the sign of the next
pub more_behind_blanks : (s : Scan) → items_at next_term_at (length s.rest) (skipped s) ≡ items_at next_term_at (length s.rest) s
more_behind_blanks s = more_from s s.rest refl (next_behind_blanks s)

-- how the terms of an expression are parted, with blanks before them or not
pub ruleset terms_parted = (no_more_terms, more_behind_blanks, first_behind_blanks, skip_twice)
