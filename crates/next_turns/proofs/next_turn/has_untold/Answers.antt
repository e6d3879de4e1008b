use Rattle.std.proofs.Common.{◌∙◌, sym, arith}
use Rattle.job_order_laws.specs.Noticed.{is_untold}
use Rattle.next_turns.proofs.Finding.{found-here, found-later, found-none}
use Rattle.next_turns.proofs.next_turn.has_untold.Goals as goal

pub returns-then-is_untold : goal.returns-then-is_untold
returns-then-is_untold g c =
    found-here (is_untold c.args.n) (g.L.LockTable.requests c.args.locks.now) c.loop-i.i c.request-r.result.now c.request-r.ensures
    (sym c.is_untold.ensures ∙ c.if-is_untold.true) c.loop-i.invariant

pub loop-i-preserved : goal.loop-i-preserved
loop-i-preserved g c =
    found-later (is_untold c.args.n) (g.L.LockTable.requests c.args.locks.now) c.loop-i.i c.request-r.result.now c.request-r.ensures
    (sym c.is_untold.ensures ∙ c.if-is_untold.false) c.loop-i.invariant

pub returns : goal.returns
returns g c =
    found-none (is_untold c.args.n) (g.L.LockTable.requests c.args.locks.now) c.loop-i.i (omega arith) c.loop-i.invariant
