use Rattle.std.proofs.Common.{◌≡◌, ◌-◌, ◌&&◌, drop, is_some, length, slice_index, take}
use Rattle.ddt_commands.specs.Lines.{comparison_in, is_breakpoint, is_word_at, word_place}
use Rattle.ddt_commands.specs.Texts.{cut_of, first_place, is_blank}
use Rattle.ddt_commands.proofs.breakpoints.word_place.Given as goal

abbrev pub invariant-places : goal.invariant-places
invariant-places l = first_place (is_word_at l.word l.other l.text) l.i (length l.text - l.i) ≡ word_place l.word l.other l.text
