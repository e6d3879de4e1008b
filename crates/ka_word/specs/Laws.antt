-- What the laws of words speak of: signed numbers.
use Rattle.std.specs.Prelude.{ℕ, zero, suc, ℤ, pos, negsuc, ◌+ℤ◌, ◌*ℤ◌, ◌≤ℤ◌, ◌<ℤ◌, ◌-◌, ◌%◌, ◌^◌}
use Rattle.word36.specs.Words.{signed_value}

-- a number that a word holds: not below -2 ^ 35, and below 2 ^ 35
abbrev pub FitsWord : ℤ → Type 0
FitsWord z = (negsuc (2 ^ 35 - 1) ≤ℤ z) × (z <ℤ pos (2 ^ 35))

-- the signed number of two words: the high one counts 2 ^ 35, and the sign of the low one is not looked at
abbrev pub double_value : ℕ → ℕ → ℤ
double_value high low = signed_value high *ℤ pos (2 ^ 35) +ℤ pos (low % 2 ^ 35)

-- the number of 18 bits that stands for -e
abbrev pub opposite : ℕ → ℕ
opposite e = (2 ^ 18 - e) % 2 ^ 18

-- a function so many times, one after another
unfoldable pub times : ℕ → (ℕ → ℕ) → ℕ → ℕ
times zero f w = w
times (suc n) f w = f (times n f w)
