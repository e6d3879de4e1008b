use Rattle.std.proofs.Common.{◌≡◌, ◌≤◌, ◌∙◌, true, sym, arith}
use Rattle.word36.specs.declared.sizes.TheConstants.{JOBS}
use Rattle.ddt_timeline.proofs.GoingOn.{some_is_next}
use Rattle.ddt_timeline.proofs.stops.can_run_again.Goals as goal

pub returns : goal.returns
returns c =
    λ (runs : c.can_run.result ≡ true).
    let some : 1 ≤ c.in-Some.number = omega arith in
    let most : c.in-Some.number ≤ JOBS = omega arith in
    some_is_next c.args.machine.now c.in-Some.number some most (sym c.can_run.ensures ∙ runs)
