use Rattle.std.proofs.Common.{◌≡◌, ℕ, ◌+◌, ◌-◌, ◌*◌, ◌%◌, ◌^◌, ◌<◌, ◌≤◌, arith}
use Rattle.std.specs.Int.Count.{count_leading_zeros, leading_unique}
use Rattle.std.proofs.lemmas.Nat.{leading_length, leading_le}
use Rattle.std.proofs.Math.Pow.{pow_mono}

pow_37 : (m : ℕ) → 37 ≤ m → 2 ^ 37 ≤ 2 ^ m
pow_37 m h = pow_mono h

-- a length is at most 36 where the number is a word
length_36 : (a m : ℕ) → a < 2 ^ 36 → 2 ^ m ≤ 2 * a + 1 → m ≤ 36
length_36 a m h p = grind (arith, pow_37)

-- the first 28 of 64 bits of a word are zeros
zeros_36 : (a m : ℕ) → a < 2 ^ 36 → count_leading_zeros 64 a + m ≡ 64 → a < 2 ^ m → 2 ^ m ≤ 2 * a + 1 → count_leading_zeros 64 a - 28 ≡ count_leading_zeros 36 a
zeros_36 a m h e p q = let l = length_36 a m h q in leading_unique 36 a (count_leading_zeros 64 a - 28) m (omega arith) p q

pub zeros_of_36 : (a : ℕ) → a < 2 ^ 36 → (count_leading_zeros 64 a - 28) % 2 ^ 36 ≡ count_leading_zeros 36 a
zeros_of_36 a h =
    let b : a < 2 ^ 64 = omega arith in
    let l = leading_length 64 a b in
    let e : count_leading_zeros 64 a - 28 ≡ count_leading_zeros 36 a = zeros_36 a l.0 h l.1 l.2 l.3 in
    let c = leading_le 36 a in omega arith
