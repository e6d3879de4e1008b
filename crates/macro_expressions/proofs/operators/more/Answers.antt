use Rattle.std.proofs.Common.{refl, sym, ap, subst, ◌∙◌}
use Rattle.std.proofs.lemmas.Result.{err_from_is_err_and}
use Rattle.macro_expressions.specs.Reading.{Front, Fails}
use Rattle.macro_expressions.proofs.Levels.{level_goes_on, level_ends, operand_fails, operator_fails, level_done}
use Rattle.macro_expressions.proofs.operators.more.Goals as goal

pub returns-in_default : goal.returns-in_default
returns-in_default g c =
    rw (c.in_default.ensures.untaken refl)
    (level_ends (g.O.Operand.reads c.args.operand.now) c.args.level c.args.most c.loop.counter c.loop.left c.loop.front _
    c.loop-test.true (sym c.in_default.ensures.value) c.loop.invariant)

pub returns-in_err-right : goal.returns-in_err-right
returns-in_err-right g c =
    let p = err_from_is_err_and c.from_residual.result c.from_residual.ensures.1 in
    let P : Front → Type 0 = λ f. Fails c.in_err-right.field-0.0 (g.O.Operand.reads c.args.operand.now f) in
    rw (p.1, p.2)
    (operand_fails (g.O.Operand.reads c.args.operand.now) c.in_err-right.field-0.0 c.args.level c.args.most c.loop.counter c.loop.left
    c.in-Some.between c.loop.front _ c.loop-test.true (sym c.in-Some.ensures.value)
    (subst P c.in-Some.ensures.taken c.in_err-right.ensures) c.loop.invariant)

pub returns-in_err-left : goal.returns-in_err-left
returns-in_err-left g c =
    let p = err_from_is_err_and c.from_residual-in_err-left.result c.from_residual-in_err-left.ensures.1 in
    rw (p.1, p.2)
    (operator_fails (g.O.Operand.reads c.args.operand.now) c.in_err-left.field-0.0 c.args.level c.args.most c.loop.counter c.loop.left
    c.in_ok-right.right c.in-Some.between c.loop.front c.read.new.front _ c.loop-test.true (sym c.in-Some.ensures.value)
    (ap (g.O.Operand.reads c.args.operand.now) (sym c.in-Some.ensures.taken) ∙ c.in_ok-right.ensures)
    c.in_err-left.ensures c.loop.invariant)

pub loop-preserved : goal.loop-preserved
loop-preserved g c =
    level_goes_on (g.O.Operand.reads c.args.operand.now) c.args.level c.args.most c.loop.counter c.loop.left
    c.in_ok-right.right c.in_ok-left.left c.in-Some.between c.loop.front c.read.new.front _ c.loop-test.true (sym c.in-Some.ensures.value)
    (ap (g.O.Operand.reads c.args.operand.now) (sym c.in-Some.ensures.taken) ∙ c.in_ok-right.ensures)
    c.in_ok-left.ensures c.loop.invariant

pub returns : goal.returns
returns g c =
    level_done (g.O.Operand.reads c.args.operand.now) c.args.level c.args.most c.loop.counter c.loop.left c.loop.front _
    c.loop-test.false c.loop.invariant
