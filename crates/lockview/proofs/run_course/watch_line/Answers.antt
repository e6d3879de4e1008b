use Rattle.std.proofs.Common.{ap, is_none, sym}
use Rattle.lockview.proofs.LineLemmas.{line_leaves, line_passes}
use Rattle.lockview.proofs.run_course.watch_line.Goals as goal

pub returns-then-count-gt1-clause-state : goal.returns-then-count-gt1-clause-state
returns-then-count-gt1-clause-state c =
    line_leaves c.args.number c.args.state.now c.args.line.now c.in-Some.repetition.0 c.in-Some.repetition.1 _ c.watch_ticks.new.machine
    c.state.view_is c.in_ok-watch_ticks.ensures.state c.in-Some.ensures

pub returns-then-count-gt1-clause-goes : goal.returns-then-count-gt1-clause-goes
returns-then-count-gt1-clause-goes c =
    sym (ap is_none (line_passes c.args.number c.args.state.now c.args.line.now c.in-Some.repetition.0 c.in-Some.repetition.1 c.in-Some.ensures).1)
