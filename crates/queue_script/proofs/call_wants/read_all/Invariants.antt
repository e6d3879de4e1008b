use Rattle.std.proofs.Common.{◌≤◌, None, length, take}
use Rattle.queue_script.specs.Locks.{IsNameFront}
use Rattle.queue_script.proofs.WantLemmas.{Gathers}
use Rattle.queue_script.proofs.call_wants.read_all.Given as goal

abbrev pub invariant-items : goal.invariant-items
invariant-items l = record {
  gathers : Gathers l.job l.block_use l.initial.items l.items l.count (take l.count l.wants.items) None;
  room : l.count ≤ 16;
  within : l.count ≤ length l.wants.items;
  front : IsNameFront l.items l.text l.named;
}

abbrev pub decreases-items : goal.decreases-items
decreases-items l = length l.items
