use Rattle.std.proofs.Common.{ℕ, ◌*◌, ◌/◌, ◌%◌, ◌^◌, ◌<◌, ◌≤◌, arith}
use Rattle.std.proofs.lemmas.Nat.{mul-le, mod_below}
use Rattle.std.proofs.Math.Nat.{div-le_self}

pub product_below : (a b : ℕ) → a ≤ 2 ^ 35 → b ≤ 2 ^ 35 → a * b ≤ 2 ^ 70
product_below a b p q = let h : a * b ≤ 2 ^ 35 * 2 ^ 35 = mul-le a b (2 ^ 35) (2 ^ 35) p q in h

pub quotient_le : (a b : ℕ) → a ≤ 2 ^ 35 → a / b ≤ 2 ^ 35
quotient_le a b p = omega (arith, div-le_self a b)

pub rest_le : (a b : ℕ) → 0 < b → b ≤ 2 ^ 35 → a % b ≤ 2 ^ 35
rest_le a b p q = omega (arith, mod_below a b p)

pub ruleset quotients = (quotient_le, rest_le)
