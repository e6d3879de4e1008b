-- The eight conditions (DECsystem-10 Processor Reference Manual, "Arithmetic testing").
use Rattle.std.specs.Prelude.{ℕ, ℤ, nat_eq, int_lt, int_le, Bool, true, false, ◌||◌, ◌&&◌, if◌then◌else◌}

-- the low digit of the operation, a comparison of signed numbers
unfoldable pub holds : ℕ → ℤ → ℤ → Bool
holds c a b =
    if nat_eq c 0 then false else  -- never
    if nat_eq c 1 then int_lt a b else  -- L
    if nat_eq c 2 then int_le a b && int_le b a else  -- E
    if nat_eq c 3 then int_le a b else  -- LE
    if nat_eq c 4 then true else  -- A, always
    if nat_eq c 5 then int_le b a else  -- GE
    if nat_eq c 6 then int_lt a b || int_lt b a else  -- N
    int_lt b a  -- G
