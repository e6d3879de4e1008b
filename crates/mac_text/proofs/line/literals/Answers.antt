use Rattle.std.proofs.lemmas.Result.{err_from_is_err_and}
use Rattle.mac_text.proofs.LineLemmas.{literals_go_on, literals_fail, literals_done}
use Rattle.mac_text.proofs.line.literals.Goals as goal

pub returns-in_err-literal : goal.returns-in_err-literal
returns-in_err-literal c =
    let p = err_from_is_err_and c.from_residual.result c.from_residual.ensures.1 in
    rw (p.1, p.2)
    (literals_fail c.args.radix c.in_err-literal.field-0.0 c.loop-cut.literals c.args.cuts.now c.loop-cut.cut-index _ _
    c.loop-cut-test.true c.in_err-literal.ensures c.loop-cut.invariant)

pub loop-cut-preserved : goal.loop-cut-preserved
loop-cut-preserved c =
    rw c.in_ok-push.ensures
    (literals_go_on c.args.radix c.loop-cut.literals c.args.cuts.now c.loop-cut.cut-index _ c.in_ok-literal.field-0 _
    c.loop-cut-test.true c.in_ok-literal.ensures c.loop-cut.invariant)

pub returns : goal.returns
returns c = literals_done c.args.radix c.loop-cut.literals c.args.cuts.now c.loop-cut.cut-index _ c.loop-cut-test.false c.loop-cut.invariant
