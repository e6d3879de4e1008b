use Rattle.std.proofs.Common.{take}
use Rattle.key_queues.specs.States.{IsTable}
use Rattle.lock_table.specs.TableStates.{state_of}
use Rattle.lock_table.specs.Reads.{request_at}
use Rattle.lock_table.specs.Departures.{IsLeft, stays_beside}
use Rattle.lock_table.specs.Flips.{Flipped}
use Rattle.lock_table.proofs.table.Table.leave_all.Given as goal

abbrev pub invariant-loop-i : goal.invariant-loop-i
invariant-loop-i g l = record {
  table : IsTable (state_of l.self.store l.self.keys);
  left : IsLeft l.fn.self.store l.self.store (request_at l.fn.self.store) (stays_beside (take l.i l.slots));
  flips : Flipped l.fn.self.store l.self.store l.fn.self.flips l.self.flips;
}
