-- The Boolean functions of two words (DECsystem-10 Processor Reference Manual, "Boolean functions").
use Rattle.std.specs.Prelude.{ℕ, ◌-◌, ◌^◌, nat_eq, bit_and, bit_or, bit_xor, if◌then◌else◌}
use Rattle.word36.specs.Words.{complement}

-- by the operation's number, from that of SETZ on by fours
unfoldable pub boolean_of : ℕ → ℕ → ℕ → ℕ
boolean_of k a m =
    if nat_eq k 0 then 0 else  -- SETZ
    if nat_eq k 1 then bit_and a m else  -- AND
    if nat_eq k 2 then bit_and (complement a) m else  -- ANDCA: not A and M
    if nat_eq k 3 then m else  -- SETM
    if nat_eq k 4 then bit_and a (complement m) else  -- ANDCM: A and not M
    if nat_eq k 5 then a else  -- SETA
    if nat_eq k 6 then bit_xor a m else  -- XOR
    if nat_eq k 7 then bit_or a m else  -- IOR
    if nat_eq k 8 then bit_and (complement a) (complement m) else  -- ANDCB: not A and not M
    if nat_eq k 9 then complement (bit_xor a m) else  -- EQV
    if nat_eq k 10 then complement a else  -- SETCA
    if nat_eq k 11 then bit_or (complement a) m else  -- ORCA: not A or M
    if nat_eq k 12 then complement m else  -- SETCM
    if nat_eq k 13 then bit_or a (complement m) else  -- ORCM: A or not M
    if nat_eq k 14 then bit_or (complement a) (complement m) else  -- ORCB: not A or not M
    2 ^ 36 - 1  -- SETO
