-- Words of private clauses: signed numbers by sign and magnitude, as the code multiplies and divides them.
use Rattle.std.specs.Prelude.{ℕ, ◌+◌, ◌-◌, ◌*◌, ◌%◌, ◌^◌, nat_eq, nat_lt, nat_le, Bool, not, ◌&&◌, if◌then◌else◌}
use Rattle.word36.specs.Words.{is_negative}

-- a word's magnitude is at most 2 ^ 35
abbrev pub magnitude : ℕ → ℕ
magnitude w = if is_negative w then 2 ^ 36 - w else w

abbrev pub signs_differ : ℕ → ℕ → Bool
signs_differ a b = if is_negative a then not (is_negative b) else is_negative b

-- the product of the magnitudes, and whether the product itself is negative (0 is not)
abbrev pub size_of_product : ℕ → ℕ → ℕ
size_of_product a b = magnitude a * magnitude b

abbrev pub product_is_negative : ℕ → ℕ → Bool
product_is_negative a b = signs_differ a b && not (nat_eq (size_of_product a b) 0)

-- a product in two's complement of 71 bits
abbrev pub wide : Bool → ℕ → ℕ
wide negative size = if negative then 2 ^ 71 - size else size

-- its sign with its low 35 bits
abbrev pub low_of : Bool → ℕ → ℕ
low_of negative size = (if negative then 2 ^ 35 else 0) + wide negative size % 2 ^ 35

-- it is below -2 ^ 35 or not below 2 ^ 35
abbrev pub is_past : Bool → ℕ → Bool
is_past negative size = if negative then nat_lt (2 ^ 35) size else nat_le (2 ^ 35) size

-- the word of a sign and a magnitude
abbrev pub with_sign : Bool → ℕ → ℕ
with_sign negative m = if negative then (2 ^ 36 - m) % 2 ^ 36 else m
