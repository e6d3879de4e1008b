use Rattle.std.proofs.Common.{◌≡◌, drop}
use Rattle.std.specs.List.{list_any}
use Rattle.job_order_laws.specs.Noticed.{is_untold}
use Rattle.next_turns.proofs.next_turn.has_untold.Given as goal

abbrev pub invariant-loop-i : goal.invariant-loop-i
invariant-loop-i g l =
    let requests = g.L.LockTable.requests l.locks in
    list_any (is_untold l.n) (drop l.i requests) ≡ list_any (is_untold l.n) requests
