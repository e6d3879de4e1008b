use Rattle.std.proofs.Common.{◌≡◌, drop}
use Rattle.macro_output.specs.Shown.{has_all_but_zeros}
use Rattle.macro_output.proofs.shown.are_all_but_zeros.Given as goal

abbrev pub invariant-loop-word : goal.invariant-loop-word
invariant-loop-word l = has_all_but_zeros l.left (drop l.word-index l.words) ≡ has_all_but_zeros l.shown l.words
