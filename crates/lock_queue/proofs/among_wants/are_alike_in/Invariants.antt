use Rattle.std.proofs.Common.{◌≡◌, drop, filter}
use Rattle.std.specs.List.{list_all}
use Rattle.lock_queue.specs.Enqueues.{are_alike}
use Rattle.lock_queue.specs.Keys.{same_key}
use Rattle.lock_queue.proofs.among_wants.are_alike_in.Given as goal

abbrev pub invariant-loop-v : goal.invariant-loop-v
invariant-loop-v l =
    list_all (λ v. are_alike v l.w) (filter (λ v. same_key v.key l.w.key) (drop l.v-index l.wants))
    ≡ list_all (λ v. are_alike v l.w) (filter (λ v. same_key v.key l.w.key) l.wants)
