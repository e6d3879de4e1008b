-- Half words (DECsystem-10 Processor Reference Manual, "Half word data transmission").
use Rattle.std.specs.Prelude.{ℕ, ◌-◌, ◌^◌, nat_eq, nat_lt, if◌then◌else◌}
use Rattle.word36.specs.Words.{left_half, right_half, joined}

-- halves swapped
abbrev pub swapped : ℕ → ℕ
swapped w = joined (right_half w) (left_half w)

-- a half of ones, and a half full of the top bit of h
abbrev pub ones : ℕ
ones = 2 ^ 18 - 1

abbrev pub extended : ℕ → ℕ
extended h = if nat_lt h (2 ^ 17) then 0 else 2 ^ 18 - 1

-- Half of the operand w, put into one half of the destination d. The second letter of the name is the
-- half that is moved, the third the half that receives it; the other half is that of d, or with Z zeros,
-- with O ones, with E the top bit of the moved half.
unfoldable pub halfword_of : ℕ → ℕ → ℕ → ℕ
halfword_of k w d =
    if nat_eq k 0 then joined (left_half w) (right_half d) else  -- HLL
    if nat_eq k 1 then joined (right_half w) (right_half d) else  -- HRL
    if nat_eq k 2 then joined (left_half w) 0 else  -- HLLZ
    if nat_eq k 3 then joined (right_half w) 0 else  -- HRLZ
    if nat_eq k 4 then joined (left_half w) ones else  -- HLLO
    if nat_eq k 5 then joined (right_half w) ones else  -- HRLO
    if nat_eq k 6 then joined (left_half w) (extended (left_half w)) else  -- HLLE
    if nat_eq k 7 then joined (right_half w) (extended (right_half w)) else  -- HRLE
    if nat_eq k 8 then joined (left_half d) (right_half w) else  -- HRR
    if nat_eq k 9 then joined (left_half d) (left_half w) else  -- HLR
    if nat_eq k 10 then right_half w else  -- HRRZ
    if nat_eq k 11 then left_half w else  -- HLRZ
    if nat_eq k 12 then joined ones (right_half w) else  -- HRRO
    if nat_eq k 13 then joined ones (left_half w) else  -- HLRO
    if nat_eq k 14 then joined (extended (right_half w)) (right_half w) else  -- HRRE
    joined (extended (left_half w)) (left_half w)  -- HLRE
