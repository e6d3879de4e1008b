use Rattle.std.proofs.Common.{◌≡◌, drop}
use Rattle.std.specs.List.{list_any}
use Rattle.ddt_moves.specs.StopLists.{is_same}
use Rattle.ddt_moves.proofs.stop_lists.is_watched.Given as goal

abbrev pub invariant-loop-one : goal.invariant-loop-one
invariant-loop-one l = list_any (is_same l.word) (drop l.one-index l.words) ≡ list_any (is_same l.word) l.words
