use Rattle.std.proofs.Common.{◌≤◌, length}
use Rattle.lock_table.specs.Arrivals.{AreFound, IsArriving, SameRequests}
use Rattle.lock_table.proofs.enqueues.enter_all.Given as goal

abbrev pub invariant-loop-k : goal.invariant-loop-k
invariant-loop-k g l = record {
  arriving : IsArriving l.store l.keys l.p l.wants l.k;
  few : length l.store.order ≤ g.row.REQS;
  found : AreFound l.k l.keys l.wants l.found;
  same : SameRequests l.fn.store l.store l.p;
}
