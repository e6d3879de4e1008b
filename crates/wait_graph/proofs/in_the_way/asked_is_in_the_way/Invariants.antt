use Rattle.std.proofs.Common.{◌≡◌, drop}
use Rattle.std.specs.List.{list_any}
use Rattle.lock_queue.specs.Jobs.{is_in_the_way}
use Rattle.lock_queue.specs.Queue.{wants_at, requests_of}
use Rattle.wait_graph.proofs.in_the_way.asked_is_in_the_way.Given as goal

abbrev pub invariant-loop-r : goal.invariant-loop-r
invariant-loop-r l =
    list_any (λ v. is_in_the_way v l.w) (wants_at (requests_of (drop l.r-index l.earlier) l.other) l.w.key)
    ≡ list_any (λ v. is_in_the_way v l.w) (wants_at (requests_of l.earlier l.other) l.w.key)
