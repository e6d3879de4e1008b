use Rattle.std.proofs.Common.{◌≡◌, ◌≤◌, ◌<◌, ℕ, IfSome, get_or, length, take, true}
use Rattle.lock_queue.specs.Dequeues.{has_wants}
use Rattle.lock_queue.specs.Unused.{unused_want}
use Rattle.key_queues.specs.Locks.{lock_at}
use Rattle.key_queues.specs.LockUse.{in_use_for}
use Rattle.key_queues.specs.States.{IsTable}
use Rattle.lock_table.specs.Arrivals.{no_found}
use Rattle.lock_table.specs.TableStates.{state_of}
use Rattle.lock_table.specs.Departures.{IsLeft, left_named}
use Rattle.lock_table.specs.Flips.{Flipped}
use Rattle.lock_table.proofs.table.Table.give_up_named.Given as goal

abbrev pub invariant-loop-i : goal.invariant-loop-i
invariant-loop-i g l = record {
  table : IsTable (state_of l.self.store l.self.keys);
  left : IsLeft l.fn.self.store l.self.store (left_named l.fn.self.store l.job (take l.i l.named)) (λ x. has_wants (left_named l.fn.self.store l.job (take l.i l.named) x));
  flips : Flipped l.fn.self.store l.self.store l.fn.self.flips l.self.flips;
  in_use_still : (j : ℕ) → l.i ≤ j → j < length l.named
      → IfSome (get_or l.found j no_found).number (λ n. in_use_for (get_or l.named j unused_want).key (lock_at l.self.keys n) ≡ true);
}
