-- Bytes of a word and pointers to them (DECsystem-10 Processor Reference Manual, "Byte manipulation").
use Rattle.std.specs.Prelude.{ℕ, min, ◌+◌, ◌-◌, ◌*◌, ◌/◌, ◌%◌, ◌^◌, nat_lt, nat_le, if◌then◌else◌}

-- a pointer: P in bits 0-5 is the number of bits to the right of the byte, S in bits 6-11 its size
abbrev pub position_of : ℕ → ℕ
position_of p = p / 2 ^ 30

abbrev pub size_of : ℕ → ℕ
size_of p = p / 2 ^ 24 % 2 ^ 6

-- Where P is at least S, P becomes P-S; otherwise Y becomes Y+1 modulo 2 ^ 18, bits 6-17 staying, and P becomes
-- 36-S, or 0 where S is above 36 (this project's profile).
unfoldable pub incremented : ℕ → ℕ
incremented p =
    if nat_le (size_of p) (position_of p) then p - size_of p * 2 ^ 30
    else (36 - size_of p) * 2 ^ 30 + p / 2 ^ 18 % 2 ^ 12 * 2 ^ 18 + (p + 1) % 2 ^ 18

-- the byte of a word, the rest zero
unfoldable pub byte_of : ℕ → ℕ → ℕ
byte_of p w = w / 2 ^ position_of p % 2 ^ size_of p

-- k bits of w, with p bits to their right, are replaced by the low bits of a
abbrev pub replaced : ℕ → ℕ → ℕ → ℕ → ℕ
replaced p k a w = w / 2 ^ (p + k) * 2 ^ (p + k) + (a % 2 ^ k * 2 ^ p + w % 2 ^ p)

-- of the byte's bits those that the word has are replaced
unfoldable pub deposited : ℕ → ℕ → ℕ → ℕ
deposited p a w =
    if nat_lt (position_of p) 36 then replaced (position_of p) (min (size_of p) (36 - position_of p)) a w else w
