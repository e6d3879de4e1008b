-- The limits of the jobs before the index have had their tick, and of these the set holds those whose limits end.
use Rattle.std.proofs.Common.{◌≡◌, ◌≤◌, ◌++◌, ◌&&◌, ℕ, nat_lt, take, drop, length}
use Rattle.lock_queue.specs.Jobs.{is_among, is_waiting_job}
use Rattle.job_sched.specs.Limits.{expires, limited_from}
use Rattle.job_sched.proofs.table.expire_all.Given as goal

abbrev pub invariant-loop-number : goal.invariant-loop-number
invariant-loop-number g l = record {
  jobs : take l.number l.jobs ++ limited_from (is_waiting_job (g.L.LockTable.requests l.locks)) l.number (drop l.number l.jobs)
      ≡ limited_from (is_waiting_job (g.L.LockTable.requests l.locks)) 0 l.initial.jobs;
  rest : drop l.number l.jobs ≡ drop l.number l.initial.jobs;
  there : l.number ≤ length l.jobs;
  same : length l.jobs ≡ length l.initial.jobs;
  ended : (n : ℕ) → is_among l.ended n ≡ (nat_lt n l.number && expires (g.L.LockTable.requests l.locks) l.initial.jobs n);
}
