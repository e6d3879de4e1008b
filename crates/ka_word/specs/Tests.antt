-- Masks and skips of the tests (DECsystem-10 Processor Reference Manual, "Logical testing and modification").
use Rattle.std.specs.Prelude.{ℕ, ◌/◌, ◌%◌, nat_eq, Bool, true, false, not, if◌then◌else◌}
use Rattle.ka_word.specs.Halves.{swapped}

-- the odd operations, L and S, turn the halves of the mask round
abbrev pub mask_of : ℕ → ℕ → ℕ
mask_of op m = if nat_eq (op % 2) 0 then m else swapped m

-- 0 never skips, 2 where A and mask is 0 (E), 4 always (A), 6 where it is not 0 (N)
abbrev pub skips_on : ℕ → Bool → Bool
skips_on op none_set =
    if nat_eq (op / 2 % 4) 0 then false else
    if nat_eq (op / 2 % 4) 1 then none_set else
    if nat_eq (op / 2 % 4) 2 then true else not none_set
