use Rattle.std.proofs.Common.{◌≡◌, drop}
use Rattle.std.specs.List.{list_any}
use Rattle.ddt_moves.specs.LockCalls.{gives_up_lock}
use Rattle.ddt_moves.proofs.lock_calls.gives_up_some.Given as goal

abbrev pub invariant-loop-i : goal.invariant-loop-i
invariant-loop-i l =
    list_any (gives_up_lock l.asked l.job l.name) (drop l.i l.machine.world.requests)
    ≡ list_any (gives_up_lock l.asked l.job l.name) l.machine.world.requests
