-- Pointers to bytes of 7 bits.
use Rattle.std.proofs.Common.{◌≡◌, ◌<◌, ℕ, ◌+◌, ◌-◌, ◌*◌, ◌/◌, ◌%◌, ◌^◌, ◌≤◌, nat_le, arith, ap, sym, true, ◌∙◌}
use Rattle.std.specs.Prelude.{bit_and, if◌then◌else◌}
use Rattle.std.proofs.lemmas.Nat.{and_mask}
use Rattle.std.proofs.lemmas.Bool.Decides.{nat_tests}
use Rattle.word36.specs.Words.{right_half}
use Rattle.ka_word.specs.Bytes.{byte_of, incremented, position_of, size_of}

pub byte_of_seven : (p w : ℕ) → size_of p ≡ 7 → byte_of p w ≡ w / 2 ^ (p / 2 ^ 30) % 2 ^ 7
unfolding byte_of
byte_of_seven p w h = ap (λ (n : ℕ). w / 2 ^ position_of p % 2 ^ n) h

pub incremented_seven : (p : ℕ) → size_of p ≡ 7
    → incremented p ≡ (if nat_le 7 (p / 2 ^ 30) then p - 7 * 2 ^ 30 else 29 * 2 ^ 30 + p / 2 ^ 18 % 2 ^ 12 * 2 ^ 18 + (p + 1) % 2 ^ 18)
unfolding incremented
incremented_seven p h = ap (λ (n : ℕ). if nat_le n (position_of p) then p - n * 2 ^ 30 else
    (36 - n) * 2 ^ 30 + p / 2 ^ 18 % 2 ^ 12 * 2 ^ 18 + (p + 1) % 2 ^ 18) h

-- the next character of the same word
pub incremented_here : (p : ℕ) → size_of p ≡ 7 → nat_le 7 (position_of p) ≡ true → incremented p ≡ p - 7 * 2 ^ 30
incremented_here p h room = incremented_seven p h ∙ ap (λ b. if b then p - 7 * 2 ^ 30 else 29 * 2 ^ 30 + p / 2 ^ 18 % 2 ^ 12 * 2 ^ 18 + (p + 1) % 2 ^ 18) room

same_right_half : (p : ℕ) → nat_le 7 (p / 2 ^ 30) ≡ true → (p - 7 * 2 ^ 30) % 2 ^ 18 ≡ p % 2 ^ 18
same_right_half p room = let h : 7 ≤ p / 2 ^ 30 = grind (arith, nat_tests) in omega arith

-- whose word is that of this one
pub word_here : (p : ℕ) → size_of p ≡ 7 → nat_le 7 (position_of p) ≡ true → right_half p ≡ right_half (incremented p)
word_here p h room = sym (ap right_half (incremented_here p h room) ∙ same_right_half p room)

size_of_same_word : (p : ℕ) → size_of p ≡ 7 → 7 ≤ p / 2 ^ 30 → size_of (p - 7 * 2 ^ 30) ≡ 7
size_of_same_word p h room = omega arith

size_of_next_word : (p : ℕ) → size_of p ≡ 7 → size_of (29 * 2 ^ 30 + p / 2 ^ 18 % 2 ^ 12 * 2 ^ 18 + (p + 1) % 2 ^ 18) ≡ 7
size_of_next_word p h = omega arith

pub size_of_next : (p : ℕ) → size_of p ≡ 7 → size_of (incremented p) ≡ 7
size_of_next p h =
    let e = incremented_seven p h in
    let same = size_of_same_word p h in
    let next = size_of_next_word p h in
    grind (arith, nat_tests)

-- a character is below 128
pub byte_below : (p w : ℕ) → size_of p ≡ 7 → byte_of p w < 128
byte_below p w h = rw (byte_of_seven p w h) (omega arith)

-- a shift and a mask are a character
pub byte_masked : (p w : ℕ) → size_of p ≡ 7 → bit_and (w / 2 ^ (p / 2 ^ 30)) 127 ≡ byte_of p w
byte_masked p w h = and_mask (w / 2 ^ (p / 2 ^ 30)) 7 ∙ sym (byte_of_seven p w h)
