use Rattle.std.proofs.Common.{◌≡◌, ◌≤◌, filter, length, map, take}
use Rattle.lock_queue.specs.Grants.{grant_of}
use Rattle.lock_table.specs.Reads.{requests_at}
use Rattle.lock_table.specs.Raised.{is_raised}
use Rattle.lock_table.proofs.waking.fill_woken.Given as goal

abbrev pub invariant-loop-p : goal.invariant-loop-p
invariant-loop-p g l = record {
  items : l.p-items ≡ l.store.order;
  filled : l.woken.items ≡ map grant_of (requests_at l.store (filter (is_raised l.store l.flips) (take l.p-index l.store.order)));
  few : length l.woken.items ≤ l.p-index;
}
