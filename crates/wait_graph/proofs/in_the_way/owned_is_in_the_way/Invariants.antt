-- What was owned before the index is not in the way.
use Rattle.std.proofs.Common.{◌≡◌, take, drop}
use Rattle.std.specs.List.{list_any}
use Rattle.lock_queue.specs.Jobs.{is_in_the_way}
use Rattle.lock_queue.specs.Queue.{chosen, chosen_behind, granted_behind, requests_of, wants_at}
use Rattle.wait_graph.proofs.in_the_way.owned_is_in_the_way.Given as goal

abbrev pub invariant-loop-i : goal.invariant-loop-i
invariant-loop-i l =
    list_any (λ v. is_in_the_way v l.w)
    (wants_at (requests_of (chosen_behind granted_behind (take l.i l.earlier) (drop l.i l.earlier)) l.owner) l.w.key)
    ≡ list_any (λ v. is_in_the_way v l.w) (wants_at (requests_of (chosen granted_behind l.earlier) l.owner) l.w.key)
