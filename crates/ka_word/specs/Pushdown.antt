-- Words that count in both halves: pushdown pointers (DECsystem-10 Processor Reference Manual, "Pushdown list").
use Rattle.std.specs.Prelude.{ℕ, ◌-◌, ◌+◌, ◌^◌, nat_lt, nat_le, Bool}
use Rattle.word36.specs.Words.{sum_of}

-- A + 1000001 octal, with a carry between the halves as on a KA10
abbrev pub counted_up : ℕ → ℕ
counted_up a = sum_of a (2 ^ 18 + 1) 0

-- A - 1000001 octal, with a borrow between the halves as on a KA10
abbrev pub counted_down : ℕ → ℕ
counted_down a = sum_of a (2 ^ 36 - 2 ^ 18 - 1) 0

-- a carry out of bit 0 of A + 1000001
abbrev pub runs_over : ℕ → Bool
runs_over a = nat_le (2 ^ 36) (a + 2 ^ 18 + 1)

-- a borrow in A - 1000001
abbrev pub runs_under : ℕ → Bool
runs_under a = nat_lt a (2 ^ 18 + 1)
