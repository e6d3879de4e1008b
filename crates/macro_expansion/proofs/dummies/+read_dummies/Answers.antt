use Rattle.std.proofs.Common.{◌≡◌, ℕ, suc, ◌-◌, List, Result, sym, subst, arith}
use Rattle.std.proofs.lemmas.Result.{err_from_is_err_and}
use Rattle.macro_expressions.specs.declared.fault.Stop.{Stop}
use Rattle.macro_expressions.specs.Reading.{Gives}
use Rattle.macro_expansion.specs.Macros.{Dummies}
use Rattle.macro_expansion.proofs.DummySteps.{dummies_end, dummies_go_on, dummies_stop}
use Rattle.macro_expansion.proofs.dummies.+read_dummies.Goals as goal

pub returns-in_err-is_end : goal.returns-in_err-is_end
returns-in_err-is_end t c =
    let more : c.args.most ≡ suc (c.args.most - 1) = omega arith in
    let p = err_from_is_err_and c.from_residual.result c.from_residual.ensures.1 in
    rw (p.1, p.2)
    (dummies_stop c.in_err-is_end.field-0.0 c.args.most (c.args.most - 1) c.args.found.now c.args.text.now c.past_comma.result.now
    more c.past_comma.ensures c.in_err-is_end.ensures)

pub returns-then-is_end : goal.returns-then-is_end
returns-then-is_end t c =
    let more : c.args.most ≡ suc (c.args.most - 1) = omega arith in
    dummies_end c.args.most (c.args.most - 1) c.args.found.now c.end_or_dummy.new.dummies c.args.text.now c.past_comma.result.now
    c.in_ok-is_end.rest.now c.in_ok-is_end.is_end more c.past_comma.ensures c.in_ok-is_end.ensures c.if-is_end.true

pub returns : goal.returns
returns t c =
    let more : c.args.most ≡ suc (c.args.most - 1) = omega arith in
    let P : Result (Dummies × List ℕ) Stop → Type 0 = λ r. Gives (λ rest. (c.read_dummies.new.found, rest.now)) c.read_dummies.result r in
    subst P
    (sym
    (dummies_go_on c.args.most (c.args.most - 1) c.args.found.now c.end_or_dummy.new.dummies c.args.text.now c.past_comma.result.now
    c.in_ok-is_end.rest.now c.in_ok-is_end.is_end more c.past_comma.ensures c.in_ok-is_end.ensures c.if-is_end.false))
    c.read_dummies.ensures
