use Rattle.std.proofs.Common.{◌≡◌, ◌≤◌, length, take}
use Rattle.std.specs.List.{filter}
use Rattle.ddt_moves.specs.StopLists.{is_other}
use Rattle.ddt_moves.proofs.stop_lists.other_words.Given as goal

abbrev pub invariant-loop-one : goal.invariant-loop-one
invariant-loop-one l = record {
  others : l.others.items ≡ filter (is_other l.word) (take l.one-index l.words);
  few : length l.others.items ≤ l.one-index;
}
