use Rattle.std.proofs.Common.{◌≡◌, ◌-◌, ◌&&◌, drop, is_some, length, slice_index, take}
use Rattle.ddt_commands.specs.Lines.{comparison_in, is_breakpoint, is_word_at, comparison_place}
use Rattle.ddt_commands.specs.Texts.{cut_of, first_place, is_blank}
use Rattle.ddt_commands.proofs.breakpoints.comparison_place.Given as goal

abbrev pub invariant-places : goal.invariant-places
invariant-places l = first_place (λ i. is_some (comparison_in (drop i l.text))) l.i (length l.text - l.i) ≡ comparison_place l.text
