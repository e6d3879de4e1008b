use Rattle.std.proofs.Common.{◌≡◌, ℕ, ◌+◌, ◌<◌, ◌^◌, Bool, true, false, refl, arith}
use Rattle.std.proofs.lemmas.Bool.Decides.{nat_tests}
use Rattle.word36.specs.Words.{sum_of, carry_0, carry_1}
use Rattle.ka_cpu.specs.Effects.{carried_flags, sum_flags}
use Rattle.ka_state.specs.declared.registers.Flags.{Flags}

-- a sum below 2 ^ 35 fits a word, and has no carries out of bits 0 and 1
pub small_sum : (a b c : ℕ) → a + b + c < 2 ^ 35 → a + b + c ≡ sum_of a b c
small_sum a b c h = grind arith

small_0 : (a b c : ℕ) → a + b + c < 2 ^ 35 → carry_0 a b c ≡ false
small_0 a b c h = grind (arith, nat_tests)

small_1 : (a b c : ℕ) → a + b + c < 2 ^ 35 → carry_1 a b c ≡ false
small_1 a b c h = grind (arith, nat_tests)

no_carries : (o c d e : Bool)
    → carried_flags (record { overflow = o; carry0 = c; carry1 = d; no_divide = e }) false false ≡ record { overflow = o; carry0 = c; carry1 = d; no_divide = e }
no_carries true true true e = refl
no_carries true true false e = refl
no_carries true false true e = refl
no_carries true false false e = refl
no_carries false true true e = refl
no_carries false true false e = refl
no_carries false false true e = refl
no_carries false false false e = refl

flags_by : (x y : Bool) (f : Flags) → x ≡ false → y ≡ false → carried_flags f x y ≡ f
flags_by x y f p q = rw (p, q) (no_carries f.overflow f.carry0 f.carry1 f.no_divide)

pub small_flags : (a b c : ℕ) (f : Flags) → a + b + c < 2 ^ 35 → sum_flags f a b c ≡ f
small_flags a b c f h = flags_by (carry_0 a b c) (carry_1 a b c) f (small_0 a b c h) (small_1 a b c h)

pub ruleset small_sums = (small_sum, small_flags)
