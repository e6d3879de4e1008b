use Rattle.std.proofs.Common.{◌≡◌, drop, filter}
use Rattle.std.specs.List.{list_any}
use Rattle.lock_queue.specs.Jobs.{is_in_the_way}
use Rattle.lock_queue.specs.Keys.{same_key}
use Rattle.lock_queue.proofs.among_wants.some_in_the_way.Given as goal

abbrev pub invariant-loop-v : goal.invariant-loop-v
invariant-loop-v l =
    list_any (λ v. is_in_the_way v l.w) (filter (λ v. same_key v.key l.w.key) (drop l.v-index l.wants))
    ≡ list_any (λ v. is_in_the_way v l.w) (filter (λ v. same_key v.key l.w.key) l.wants)
