-- Quotients of two words (DECsystem-10 Processor Reference Manual, "Fixed point arithmetic").
use Rattle.std.specs.Prelude.{ℕ, ◌-◌, ◌^◌, nat_eq, int_div, int_rem, Bool, ◌||◌, ◌&&◌}
use Rattle.word36.specs.Words.{signed_value}
use Rattle.ka_word.specs.Numbers.{word_of}

-- the divisor is 0, or the quotient would be 2 ^ 35
abbrev pub no_quotient : ℕ → ℕ → Bool
no_quotient a b = nat_eq b 0 || (nat_eq a (2 ^ 35) && nat_eq b (2 ^ 36 - 1))

-- the quotient toward 0, and the remainder with the sign of A
unfoldable pub quotient_of : ℕ → ℕ → ℕ
quotient_of a b = word_of (int_div (signed_value a) (signed_value b))

unfoldable pub remainder_of : ℕ → ℕ → ℕ
remainder_of a b = word_of (int_rem (signed_value a) (signed_value b))
