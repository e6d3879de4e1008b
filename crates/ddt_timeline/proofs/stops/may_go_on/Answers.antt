use Rattle.std.proofs.Common.{◌≡◌, ◌∙◌, true, sym}
use Rattle.ddt_timeline.proofs.GoingOn.{found_goes_on, next_goes_on}
use Rattle.ddt_timeline.proofs.stops.may_go_on.Goals as goal

pub returns-then-is_ready-clause-going : goal.returns-then-is_ready-clause-going
returns-then-is_ready-clause-going c = λ _. next_goes_on c.args.machine.now (c.requires c.if-is_ready.true)

pub returns-else-is_ready-clause-going : goal.returns-else-is_ready-clause-going
returns-else-is_ready-clause-going c =
    λ (some : c.some_go_on.result ≡ true). found_goes_on c.args.machine.now (sym c.some_go_on.ensures ∙ some)
