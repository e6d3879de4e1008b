use Rattle.std.proofs.Common.{◌≡◌, drop, filter}
use Rattle.std.specs.List.{list_any}
use Rattle.lock_queue.specs.Keys.{same_key}
use Rattle.lock_queue.specs.Queue.{is_pooled}
use Rattle.lock_queue.proofs.among_wants.is_pooled_in.Given as goal

abbrev pub invariant-loop-v : goal.invariant-loop-v
invariant-loop-v l =
    list_any is_pooled (filter (λ v. same_key v.key l.key) (drop l.v-index l.wants))
    ≡ list_any is_pooled (filter (λ v. same_key v.key l.key) l.wants)
