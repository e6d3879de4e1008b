-- Printed characters are read again.
use Rattle.std.proofs.Common.{◌≡◌, ℕ, suc, ◌+◌, ◌-◌, ◌*◌, ◌/◌, ◌%◌, ◌<◌, ◌≤◌, ◌≢◌, Bool, true, false, List, [], ◌∷◌, ◌++◌, Some}
use Rattle.std.proofs.Common.{refl, sym, ap, subst, ◌∙◌, arith, cond, nat_eq, nat_lt, nat_le, ◌||◌}
use Rattle.std.proofs.lemmas.Bool.{le-leb, eqb-false, eqb-true}
use Rattle.std.proofs.lemmas.Bool.Decides.{eqb_tells}
use Rattle.std.proofs.Common.{inl, inr}
use Rattle.std.proofs.lemmas.List.Elements.{All-head, All-tail}
use Rattle.std.specs.Prelude.{option_map, option_and_then, All}
use Rattle.script_io.specs.Printing.{escaped}
use Rattle.run_commands.specs.Texts.{characters_of, spelled_behind, octal_value, first_spelled, spells}
use Rattle.script_io.specs.Printing.{printed, printed_character}

-- a text with this in front of it is read with this character in front
abbrev pub ReadsAs : ℕ → List ℕ → List ℕ → Type 0
ReadsAs c rest spelled = characters_of (spelled ++ rest) ≡ option_map (λ cs. c ∷ cs) (characters_of rest)

pub chosen : (P : List ℕ → Type 0) (b : Bool) (x y : List ℕ) → (b ≡ true → P x) → (b ≡ false → P y) → P (cond b x y)
chosen P true x y p q = p refl
chosen P false x y p q = q refl

pub line_feed : (rest : List ℕ) → ReadsAs 10 rest (92 ∷ 110 ∷ [])
unfolding spelled_behind
line_feed rest = refl

pub carriage_return : (rest : List ℕ) → ReadsAs 13 rest (92 ∷ 114 ∷ [])
unfolding spelled_behind
carriage_return rest = refl

pub escape_character : (rest : List ℕ) → ReadsAs 27 rest (92 ∷ 101 ∷ [])
unfolding spelled_behind
escape_character rest = refl

pub backslash : (rest : List ℕ) → ReadsAs 92 rest (92 ∷ 92 ∷ [])
unfolding spelled_behind
backslash rest = refl

pub not_equal : (a b : ℕ) → a ≢ b → nat_eq a b ≡ false
not_equal a b h = elim (eqb_tells a b) [ inl p ↦ absurd (h p.1) | inr p ↦ p.0 ]

-- a character that stands for itself
pub itself : (c : ℕ) (rest : List ℕ) → c ≢ 92 → c < 128 → ReadsAs c rest (c ∷ [])
unfolding spelled_behind
itself c rest other low =
    let e : nat_eq c 92 ≡ false = not_equal c 92 other in
    let l : nat_lt c 128 ≡ true = le-leb (suc c) 128 (omega arith) in
    let f : first_spelled c rest ≡ spells c 1 = simp (e, l) in
    ap (λ o. option_and_then (λ s. option_map (λ cs. s.character ∷ cs) (spelled_behind (s.length - 1) rest)) o) f

pub octal_read : (a b d : ℕ) (rest : List ℕ) → a ≤ 1 → b ≤ 7 → d ≤ 7
    → first_spelled 92 ((48 + a) ∷ (48 + b) ∷ (48 + d) ∷ rest) ≡ spells (64 * a + 8 * b + d) 4
octal_read a b d rest ha hb hd =
    let n : nat_eq (48 + a) 110 ≡ false = not_equal _ _ (λ h. omega (arith, h)) in
    let r : nat_eq (48 + a) 114 ≡ false = not_equal _ _ (λ h. omega (arith, h)) in
    let e : nat_eq (48 + a) 101 ≡ false = not_equal _ _ (λ h. omega (arith, h)) in
    let s : nat_eq (48 + a) 92 ≡ false = not_equal _ _ (λ h. omega (arith, h)) in
    let a1 : nat_le 48 (48 + a) ≡ true = le-leb _ _ (omega arith) in
    let a2 : nat_le (48 + a) 49 ≡ true = le-leb _ _ (omega arith) in
    let b1 : nat_le 48 (48 + b) ≡ true = le-leb _ _ (omega arith) in
    let b2 : nat_le (48 + b) 55 ≡ true = le-leb _ _ (omega arith) in
    let d1 : nat_le 48 (48 + d) ≡ true = le-leb _ _ (omega arith) in
    let d2 : nat_le (48 + d) 55 ≡ true = le-leb _ _ (omega arith) in
    let v : octal_value (48 + a) (48 + b) (48 + d) ≡ 64 * a + 8 * b + d = omega arith in
    simp (n, r, e, s, a1, a2, b1, b2, d1, d2) (ap (λ x. spells x 4) v)

-- a character in octal
pub in_octal : (c : ℕ) (rest : List ℕ) → c < 128 → ReadsAs c rest (escaped c)
unfolding spelled_behind
in_octal c rest low =
    let whole : 64 * (c / 64) + 8 * (c / 8 % 8) + c % 8 ≡ c = omega arith in
    let f = octal_read (c / 64) (c / 8 % 8) (c % 8) rest (omega arith) (omega arith) (omega arith) in
    ap (λ o. option_and_then (λ s. option_map (λ cs. s.character ∷ cs)
    (spelled_behind (s.length - 1) ((48 + c / 64) ∷ (48 + c / 8 % 8) ∷ (48 + c % 8) ∷ rest))) o) f
    ∙ ap (λ n. option_map (λ cs. n ∷ cs) (characters_of rest)) whole

pub character_read : (c : ℕ) (rest : List ℕ) → c < 128 → ReadsAs c rest (printed_character c)
character_read c rest low =
    let P : List ℕ → Type 0 = ReadsAs c rest in
    chosen P (nat_eq c 10) _ _ (λ h. subst (λ n. ReadsAs n rest (92 ∷ 110 ∷ [])) (sym (eqb-true c 10 h)) (line_feed rest))
    (λ _. chosen P (nat_eq c 13) _ _ (λ h. subst (λ n. ReadsAs n rest (92 ∷ 114 ∷ [])) (sym (eqb-true c 13 h)) (carriage_return rest))
    (λ _. chosen P (nat_eq c 27) _ _ (λ h. subst (λ n. ReadsAs n rest (92 ∷ 101 ∷ [])) (sym (eqb-true c 27 h)) (escape_character rest))
    (λ _. chosen P (nat_eq c 92) _ _ (λ h. subst (λ n. ReadsAs n rest (92 ∷ 92 ∷ [])) (sym (eqb-true c 92 h)) (backslash rest))
    (λ not. chosen P (nat_lt c 32 || nat_eq c 127) _ _ (λ _. in_octal c rest low) (λ _. itself c rest (eqb-false c 92 not) low)))))

pub text_read : (text : List ℕ) → All (λ c. c < 128) text → characters_of (printed text) ≡ Some text
unfolding spelled_behind
text_read [] h = refl
text_read (c ∷ more) h = character_read c (printed more) (All-head (λ n. n < 128) c more h)
    ∙ ap (option_map (λ cs. c ∷ cs)) (text_read more (All-tail (λ n. n < 128) c more h))
