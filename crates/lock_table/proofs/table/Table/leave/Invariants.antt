use Rattle.std.proofs.Common.{◌≡◌, ℕ, length}
use Rattle.key_queues.specs.States.{IsTable}
use Rattle.key_queues.specs.Stores.{entry_at}
use Rattle.lock_table.specs.TableStates.{state_of}
use Rattle.lock_table.specs.Flips.{Flipped}
use Rattle.lock_table.proofs.table.Table.leave.Given as goal

abbrev pub invariant-loop-left : goal.invariant-loop-left
invariant-loop-left g l = record {
  table : IsTable (state_of l.self.store l.self.keys);
  left : l.left ≡ length (entry_at l.self.store l.p).queues.items;
  order : l.self.store.order ≡ l.fn.self.store.order;
  others : (x : ℕ) → (x ≡ l.p → ⊥) → (entry_at l.self.store x).request ≡ (entry_at l.fn.self.store x).request;
  flips : Flipped l.fn.self.store l.self.store l.fn.self.flips l.self.flips;
}

abbrev pub decreases-loop-left : goal.decreases-loop-left
decreases-loop-left g l = l.left
