use Rattle.std.proofs.Common.{◌≡◌, ◌-◌, ◌&&◌, drop, is_some, length, slice_index, take}
use Rattle.ddt_commands.specs.Lines.{comparison_in, is_breakpoint, is_limit_at, limits_place}
use Rattle.ddt_commands.specs.Texts.{cut_of, first_place, is_blank}
use Rattle.ddt_commands.proofs.breakpoints.limits_place.Given as goal

abbrev pub invariant-places : goal.invariant-places
invariant-places l = first_place (is_limit_at l.text) l.i (length l.text - l.i) ≡ limits_place l.text
