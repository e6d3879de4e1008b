-- Words of signed numbers.
use Rattle.std.specs.Prelude.{ℕ, ℤ, pos, negsuc, int_lt, int_le, unsigned_abs, ◌-◌, ◌^◌, Bool, ◌&&◌}
use Rattle.std.specs.Int.{int_rem_euclid}

-- the low 36 bits of a number in two's complement
abbrev pub word_of : ℤ → ℕ
word_of z = unsigned_abs (int_rem_euclid z (pos (2 ^ 36)))

-- a word holds the number: it is not below -2 ^ 35, and is below 2 ^ 35
abbrev pub fits : ℤ → Bool
fits z = int_le (negsuc (2 ^ 35 - 1)) z && int_lt z (pos (2 ^ 35))
