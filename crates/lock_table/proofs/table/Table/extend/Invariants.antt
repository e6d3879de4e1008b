use Rattle.std.proofs.Common.{◌≡◌, ◌+◌, cond, false}
use Rattle.key_queues.specs.Locks.{lock_at, uncounted}
use Rattle.key_queues.specs.States.{Extended, IsFull}
use Rattle.lock_table.specs.TableStates.{state_of}
use Rattle.lock_table.specs.Flips.{Flipped}
use Rattle.lock_table.proofs.table.Table.extend.Given as goal

abbrev pub invariant-loop-more : goal.invariant-loop-more
invariant-loop-more g l = record {
  extended : Extended (state_of l.fn.self.store l.fn.self.keys) (state_of l.self.store l.self.keys) l.n;
  full : l.more ≡ false → IsFull (state_of l.self.store l.self.keys) l.n;
  flips : Flipped l.fn.self.store l.self.store l.fn.self.flips l.self.flips;
}

abbrev pub decreases-loop-more : goal.decreases-loop-more
decreases-loop-more g l = uncounted (lock_at l.self.keys l.n).queue + cond l.more 1 0
