use Rattle.std.proofs.Common.{◌≡◌, ◌+◌, ◌-◌, ◌*◌, ◌^◌, ◌≤◌, drop, filter, sum_by}
use Rattle.lock_queue.specs.Keys.{same_key}
use Rattle.lock_queue.specs.Queue.{amount_of}
use Rattle.lock_queue.proofs.status_steps.amount_at.Given as goal

abbrev pub invariant-loop-w : goal.invariant-loop-w
invariant-loop-w l =
    record {
      sum :
          l.amount + sum_by amount_of (filter (λ w. same_key w.key l.key) (drop l.w-index l.wants))
          ≡ sum_by amount_of (filter (λ w. same_key w.key l.key) l.wants);
      below : l.amount ≤ l.w-index * (2 ^ 18 - 1);
    }
