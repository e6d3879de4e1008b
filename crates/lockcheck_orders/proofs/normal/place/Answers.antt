use Rattle.lockcheck_orders.proofs.Placing.{placing-then, placing-else, placing-returns}
use Rattle.lockcheck_orders.proofs.normal.place.Goals as goal

pub returns-then-not-may_pass-clause-place : goal.returns-then-not-may_pass-clause-place
returns-then-not-may_pass-clause-place c =
    placing-returns c.args.desk.now c.args.order.now c.args.q c.loop-j.j c.loop-j.place
    c.request-r.result.now c.request-s.result.now c.may_pass.result c.loop-j.invariant c.loop-j-test.true c.request-r.ensures c.request-s.ensures
    c.may_pass.ensures c.if-not-may_pass.true

pub loop-j-preserved-then-r-s : goal.loop-j-preserved-then-r-s
loop-j-preserved-then-r-s c =
    placing-then c.args.desk.now c.args.order.now c.args.q c.loop-j.j c.loop-j.place
    c.request-r.result.now c.request-s.result.now c.may_pass.result c.loop-j.invariant c.loop-j-test.true c.request-r.ensures c.request-s.ensures
    c.may_pass.ensures c.if-not-may_pass.false c.if-r-s.true

pub loop-j-preserved : goal.loop-j-preserved
loop-j-preserved c =
    placing-else c.args.desk.now c.args.order.now c.args.q c.loop-j.j c.loop-j.place
    c.request-r.result.now c.request-s.result.now c.may_pass.result c.loop-j.invariant c.loop-j-test.true c.request-r.ensures c.request-s.ensures
    c.may_pass.ensures c.if-not-may_pass.false c.if-r-s.false
