-- Digits of a number in a radix.
use Rattle.std.proofs.Common.{◌≡◌, ◌<◌, ◌≤◌, ◌+◌, ◌-◌, ◌/◌, ◌%◌, ◌==◌, ◌++◌, ◌∷◌, ◌∙◌, [], suc, zero, ℕ, Bool, true, false, cond, List, length, drop, ap, refl, arith}
use Rattle.std.specs.Char.{encode_utf8}
use Rattle.std.specs.Fmt.{digit_glyph, digits, digits_onto}
use Rattle.std.specs.List.{flat_map}
use Rattle.std.proofs.Math.ListN.{set}
use Rattle.std.proofs.lemmas.List.{drop-set}
use Rattle.std.proofs.lemmas.Bool.Decides.{nat_tests}
use Rattle.std.proofs.lemmas.Str.{encode_ascii}

-- k digits at most that are left of a number, in front of others
unfoldable pub digits_left : ℕ → ℕ → ℕ → List ℕ → List ℕ
digits_left k radix n later = digits_onto k radix true n later

pub digits_begun : (radix n : ℕ) → digits_left 64 radix n [] ≡ digits radix true n
unfolding digits_left digits
digits_begun radix n = refl

-- none are left
pub digits_none : (k radix n : ℕ) (room : List ℕ) → k ≡ 0 → digits_left k radix n (drop k room) ≡ room
unfolding digits_left
digits_none k radix n room none = ap (λ j. digits_onto j radix true n (drop j room)) none

one_digit : (k radix n : ℕ) (later : List ℕ) (b : Bool) → (n / radix == 0) ≡ b
    → digits_onto (suc k) radix true n later
    ≡ cond b (digit_glyph true (n % radix) ∷ later) (digits_onto k radix true (n / radix) (digit_glyph true (n % radix) ∷ later))
one_digit k radix n later b is =
    ap
    (λ (t : Bool).
    cond t (digit_glyph true (n % radix) ∷ later) (digits_onto k radix true (n / radix) (digit_glyph true (n % radix) ∷ later))) is

-- the first digit
pub first_digit : (i radix n : ℕ) (later : List ℕ) → i < 64 → n / radix ≡ 0
    → digits_left (64 - i) radix n later ≡ digit_glyph true (n % radix) ∷ later
unfolding digits_left
first_digit i radix n later within is =
    let left : 64 - i ≡ suc (63 - i) = omega arith in
    ap (λ k. digits_onto k radix true n later) left ∙ one_digit (63 - i) radix n later true (grind (arith, nat_tests))

-- another digit
pub next_digit : (i radix n : ℕ) (later : List ℕ) → i < 64 → 0 < n / radix
    → digits_left (64 - i) radix n later ≡ digits_left (64 - (i + 1)) radix (n / radix) (digit_glyph true (n % radix) ∷ later)
unfolding digits_left
next_digit i radix n later within more =
    let left : 64 - i ≡ suc (64 - (i + 1)) = omega arith in
    ap (λ k. digits_onto k radix true n later) left ∙ one_digit (64 - (i + 1)) radix n later false (grind (arith, nat_tests))

-- the room from a digit on that was put there
pub digit_put : (room : List ℕ) (i x : ℕ) → i < 64 → length room ≡ 64 → drop (63 - i) (set room (63 - i) x) ≡ x ∷ drop (64 - i) room
digit_put room i x within size =
    let next : 63 - i + 1 ≡ 64 - i = omega arith in
    drop-set room (63 - i) x (omega arith) ∙ ap (λ k. x ∷ drop k room) next

-- a digit is a character of its own
glyph_small : (d : ℕ) → d < 16 → digit_glyph true d < 128
glyph_small d few = grind (arith, nat_tests)

glyph_text : (d : ℕ) → d < 16 → encode_utf8 (digit_glyph true d) ≡ digit_glyph true d ∷ []
glyph_text d few = encode_ascii (digit_glyph true d) (glyph_small d few)

with_glyph : (d : ℕ) (later : List ℕ) → d < 16 → flat_map encode_utf8 later ≡ later
    → flat_map encode_utf8 (digit_glyph true d ∷ later) ≡ digit_glyph true d ∷ later
with_glyph d later few is =
    ap (λ l. l ++ flat_map encode_utf8 later) (glyph_text d few) ∙ ap (λ l. digit_glyph true d ∷ l) is

either_text : (a c : List ℕ) (b : Bool)
    → flat_map encode_utf8 a ≡ a → flat_map encode_utf8 c ≡ c → flat_map encode_utf8 (cond b a c) ≡ cond b a c
either_text a c true one other = one
either_text a c false one other = other

onto_text : (k radix n : ℕ) (later : List ℕ) → 1 ≤ radix → radix ≤ 16 → flat_map encode_utf8 later ≡ later
    → flat_map encode_utf8 (digits_onto k radix true n later) ≡ digits_onto k radix true n later
onto_text zero radix n later least most is = is
onto_text (suc k) radix n later least most is =
    let few : n % radix < 16 = omega arith in
    let glyph = digit_glyph true (n % radix) in
    let one : flat_map encode_utf8 (glyph ∷ later) ≡ glyph ∷ later = with_glyph (n % radix) later few is in
    either_text (glyph ∷ later) (digits_onto k radix true (n / radix) (glyph ∷ later)) (n / radix == 0) one
    (onto_text k radix (n / radix) (glyph ∷ later) least most one)

pub digits_text : (radix n : ℕ) → 2 ≤ radix → radix ≤ 16 → flat_map encode_utf8 (digits radix true n) ≡ digits radix true n
unfolding digits
digits_text radix n least most = onto_text 64 radix n [] (omega arith) most refl
