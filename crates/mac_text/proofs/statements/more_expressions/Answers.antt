use Rattle.std.proofs.Common.{Some, ap, ◌∙◌}
use Rattle.std.proofs.lemmas.Result.{err_from_is_err_and}
use Rattle.mac_text.specs.Statements.{next_expression_at}
use Rattle.mac_text.proofs.ItemLemmas.{items_go_on, items_end, items_fail, items_done}
use Rattle.mac_text.proofs.statements.more_expressions.Goals as goal

pub returns-in_err-next_expression : goal.returns-in_err-next_expression
returns-in_err-next_expression c =
    let p = err_from_is_err_and c.from_residual.result c.from_residual.ensures.1 in
    rw (p.1, p.2)
    (items_fail next_expression_at c.in_err-next_expression.field-0.0 c.loop.expressions c.len-most.result c.loop.counter
    c.loop.scan _ c.loop-test.true c.in_err-next_expression.ensures c.loop.invariant)

pub returns-in-None : goal.returns-in-None
returns-in-None c =
    let step = c.in_ok-next_expression.ensures ∙ ap (λ x. Some (x, c.next_expression.new.scan)) c.in-None.is in
    items_end next_expression_at c.loop.expressions c.len-most.result c.loop.counter c.loop.scan c.next_expression.new.scan _
    c.loop-test.true step c.loop.invariant

pub loop-preserved : goal.loop-preserved
loop-preserved c =
    let step = c.in_ok-next_expression.ensures ∙ ap (λ x. Some (x, c.next_expression.new.scan)) c.in-Some.is in
    rw c.in_ok-push-in-Some.ensures
    (items_go_on next_expression_at c.loop.expressions c.len-most.result c.loop.counter c.loop.scan c.next_expression.new.scan
    c.in-Some.expression _ c.loop-test.true step c.loop.invariant)

pub returns : goal.returns
returns c = items_done next_expression_at c.loop.expressions c.len-most.result c.loop.counter c.loop.scan _ c.loop-test.false c.loop.invariant
