use Rattle.std.proofs.Common.{◌∙◌, ap, is_none, sym}
use Rattle.lockview.proofs.LineLemmas.{line_passes}
use Rattle.lockview.proofs.run_reasons.explain_line.Goals as goal

pub returns-in-Some-clause-state : goal.returns-in-Some-clause-state
returns-in-Some-clause-state c =
    c.in_ok-explain_steps.ensures.state
    ∙ sym (line_passes c.args.number c.args.state.now c.args.line.now c.in-Some.repetition.0 c.in-Some.repetition.1 c.in-Some.ensures).0

pub returns-in-Some-clause-goes : goal.returns-in-Some-clause-goes
returns-in-Some-clause-goes c =
    sym (ap is_none (line_passes c.args.number c.args.state.now c.args.line.now c.in-Some.repetition.0 c.in-Some.repetition.1 c.in-Some.ensures).1)
