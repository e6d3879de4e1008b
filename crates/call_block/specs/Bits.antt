-- Bits of a word (DECsystem-10 Processor Reference Manual).
use Rattle.std.specs.Prelude.{ℕ, ◌+◌, ◌-◌, ◌/◌, ◌%◌, ◌^◌}

-- the number in bits `first` to `last` of a word; bit 0 is the leftmost, bit 35 the rightmost
abbrev pub bits : ℕ → ℕ → ℕ → ℕ
bits first last w = w / 2 ^ (35 - last) % 2 ^ (last + 1 - first)
