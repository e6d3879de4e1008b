use Rattle.std.proofs.Common.{◌≡◌, ◌≤◌, ◌+◌, drop}
use Rattle.uuo_calls.specs.QuotaRows.{count}
use Rattle.uuo_calls.proofs.quotas.count_requests.Given as goal

abbrev pub invariant-loop-i : goal.invariant-loop-i
invariant-loop-i g l =
    let requests = g.L.LockTable.requests l.locks in
    record {
      value : l.count + count (drop l.i requests) l.number ≡ count requests l.number;
      few : l.count ≤ l.i;
    }
