-- Negation, and the overflow of a sum (DECsystem-10 Processor Reference Manual, "Fixed point arithmetic").
use Rattle.std.specs.Prelude.{ℕ, Bool, not, if◌then◌else◌}
use Rattle.word36.specs.Words.{complement, sum_of, carry_0, carry_1}

-- not x + 1
abbrev pub negated : ℕ → ℕ
negated w = sum_of (complement w) 1 0

-- the carries out of bits 0 and 1 differ
abbrev pub carries_differ : Bool → Bool → Bool
carries_differ c0 c1 = if c0 then not c1 else c1

-- the sum of two words and a carry into bit 35 sets Overflow
abbrev pub sum_overflows : ℕ → ℕ → ℕ → Bool
sum_overflows a b c = carries_differ (carry_0 a b c) (carry_1 a b c)
