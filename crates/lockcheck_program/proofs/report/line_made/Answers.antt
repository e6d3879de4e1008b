use Rattle.std.proofs.Common.{◌≤◌, ◌<◌, length, slice_index, subst, arith}
use Rattle.lockcheck_orders.specs.declared.lines.TheConstants.{MOST_LINES}
use Rattle.lockcheck_orders.proofs.Positions.{few-passed}
use Rattle.lockcheck_program.proofs.report.line_made.Goals as goal

pub returns-clause-few : goal.returns-clause-few
returns-clause-few c =
    let lines = c.args.programs.now in
    let within : slice_index c.args.made.now c.args.by < length lines =
    few-passed _ lines _ c.in_ok-i.i c.in_ok-i.ensures.within c.in_ok-i.ensures.none in
    omega (arith, within, subst (λ l. length l ≤ MOST_LINES) c.lines.ensures.value c.lines.ensures.few)
