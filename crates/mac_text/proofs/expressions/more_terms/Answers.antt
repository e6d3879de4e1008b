use Rattle.std.proofs.Common.{Some, ap, ◌∙◌}
use Rattle.std.proofs.lemmas.Result.{err_from_is_err_and}
use Rattle.mac_text.specs.Expressions.{next_term_at}
use Rattle.mac_text.proofs.ItemLemmas.{items_go_on, items_end, items_fail, items_done}
use Rattle.mac_text.proofs.expressions.more_terms.Goals as goal

pub returns-in_err-next_term : goal.returns-in_err-next_term
returns-in_err-next_term c =
    let p = err_from_is_err_and c.from_residual.result c.from_residual.ensures.1 in
    rw (p.1, p.2)
    (items_fail next_term_at c.in_err-next_term.field-0.0 c.loop.expression c.args.most c.loop.counter c.loop.scan _
    c.loop-test.true c.in_err-next_term.ensures c.loop.invariant)

pub returns-in-None : goal.returns-in-None
returns-in-None c =
    let step = c.in_ok-next_term.ensures ∙ ap (λ x. Some (x, c.next_term.new.scan)) c.in-None.is in
    items_end next_term_at c.loop.expression c.args.most c.loop.counter c.loop.scan c.next_term.new.scan _ c.loop-test.true step c.loop.invariant

pub loop-preserved : goal.loop-preserved
loop-preserved c =
    let step = c.in_ok-next_term.ensures ∙ ap (λ x. Some (x, c.next_term.new.scan)) c.in-Some.is in
    rw c.in_ok-push-in-Some.ensures
    (items_go_on next_term_at c.loop.expression c.args.most c.loop.counter c.loop.scan c.next_term.new.scan c.in-Some.term _
    c.loop-test.true step c.loop.invariant)

pub returns : goal.returns
returns c = items_done next_term_at c.loop.expression c.args.most c.loop.counter c.loop.scan _ c.loop-test.false c.loop.invariant
