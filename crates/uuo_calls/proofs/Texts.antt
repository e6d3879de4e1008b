-- Steps along a text.
use Rattle.std.proofs.Common.{Bool, true, false, ◌≡◌, ◌≢◌, ◌<◌, ℕ, zero, suc, ◌+◌, ◌/◌, ◌%◌, List, [], ◌∷◌, ◌++◌, length, Some, None, refl, arith}
use Rattle.std.proofs.lemmas.Grind.{common_steps}
use Rattle.ka_state.specs.Memory.{word_below}
use Rattle.uuo_calls.specs.TerminalRows.{character, behind, text_from}

-- where whole words have given so many characters, the next five stand in one word
pub same-word : (a k : ℕ) → a % 5 ≡ 0 → k < 5 → (a + k) / 5 ≡ a / 5
same-word a k whole within = omega (arith, whole, within)

pub place-in-word : (a k : ℕ) → a % 5 ≡ 0 → k < 5 → (a + k) % 5 ≡ k
place-in-word a k whole within = omega (arith, whole, within)

pub either-way : (b : Bool) (A : Type 0) → (b ≡ true → A) → (b ≡ false → A) → A
either-way true A goes ends = goes refl
either-way false A goes ends = ends refl

pub text_from-zero : (ac core : List ℕ) (e : ℕ) (text : List ℕ) (k : ℕ) → k ≡ 0 → text_from ac core e text k ≡ Some text
unfolding text_from
text_from-zero ac core e text zero h = refl
text_from-zero ac core e text (suc k) h = absurd (omega arith)

pub text_from-step : (ac core : List ℕ) (e : ℕ) (text : List ℕ) (k j : ℕ) → k ≡ j + 1
    → text_from ac core e text k ≡ behind (word_below ac core (e + length text / 5)) (length text % 5) text (λ c. text_from ac core e (text ++ c ∷ []) j)
unfolding text_from
text_from-step ac core e text zero j h = absurd (omega arith)
text_from-step ac core e text (suc k) j h = let same : k ≡ j = omega arith in rw same refl

pub text-none : (ac core : List ℕ) (e : ℕ) (text : List ℕ) (k j i : ℕ) → k ≡ j + 1 → length text ≡ i → word_below ac core (e + i / 5) ≡ None
    → text_from ac core e text k ≡ None
text-none ac core e text k j i h long none = rw (text_from-step ac core e text k j h, long, none) refl

pub text-zero : (ac core : List ℕ) (e : ℕ) (text : List ℕ) (k j i w : ℕ) → k ≡ j + 1 → length text ≡ i → word_below ac core (e + i / 5) ≡ Some w
    → character (i % 5) w ≡ 0 → text_from ac core e text k ≡ Some text
text-zero ac core e text k j i w h long some is = rw (text_from-step ac core e text k j h, long, some, is) refl

pub text-more : (ac core : List ℕ) (e : ℕ) (text : List ℕ) (k j i w c : ℕ) → k ≡ j + 1 → length text ≡ i → word_below ac core (e + i / 5) ≡ Some w
    → c ≡ character (i % 5) w → c ≢ 0 → text_from ac core e text k ≡ text_from ac core e (text ++ c ∷ []) j
text-more ac core e text k j i w c h long some is other =
    rw (text_from-step ac core e text k j h, long, some, ← is) (grind (arith, common_steps))
