-- Products of two words (DECsystem-10 Processor Reference Manual, "Fixed point arithmetic").
use Rattle.std.specs.Prelude.{ℕ, ℤ, pos, ◌*ℤ◌, ◌+◌, ◌^◌, nat_eq, int_lt, unsigned_abs, Bool, not, ◌&&◌, if◌then◌else◌}
use Rattle.std.specs.Int.{int_div_euclid, int_rem_euclid}
use Rattle.word36.specs.Words.{signed_value}
use Rattle.ka_word.specs.Numbers.{fits, word_of}

-- the product of two words as signed numbers
abbrev pub signed_product : ℕ → ℕ → ℤ
signed_product a b = signed_value a *ℤ signed_value b

-- floor(product / 2 ^ 35), and the sign of the product with its low 35 bits
unfoldable pub high_word : ℕ → ℕ → ℕ
high_word a b = word_of (int_div_euclid (signed_product a b) (pos (2 ^ 35)))

unfoldable pub low_word : ℕ → ℕ → ℕ
low_word a b =
    (if int_lt (signed_product a b) (pos 0) then 2 ^ 35 else 0)
    + unsigned_abs (int_rem_euclid (signed_product a b) (pos (2 ^ 35)))

-- no word holds the product
unfoldable pub overflows : ℕ → ℕ → Bool
overflows a b = not (fits (signed_product a b))

-- -2 ^ 35 by -2 ^ 35
abbrev pub both_least : ℕ → ℕ → Bool
both_least a b = nat_eq a (2 ^ 35) && nat_eq b (2 ^ 35)
