use Rattle.std.proofs.Common.{◌==◌, ◌∙◌, sym, arith}
use Rattle.lock_queue.specs.declared.request.Request.{Request}
use Rattle.next_turns.proofs.Finding.{found-here, found-later, found-none}
use Rattle.next_turns.proofs.next_turn.has_requests.Goals as goal

pub returns-then-is_of : goal.returns-then-is_of
returns-then-is_of g c =
    found-here (λ (r : Request). r.job == c.args.n) (g.L.LockTable.requests c.args.locks.now) c.loop-i.i c.request-r.result.now c.request-r.ensures
    (sym c.is_of.ensures ∙ c.if-is_of.true) c.loop-i.invariant

pub loop-i-preserved : goal.loop-i-preserved
loop-i-preserved g c =
    found-later (λ (r : Request). r.job == c.args.n) (g.L.LockTable.requests c.args.locks.now) c.loop-i.i c.request-r.result.now c.request-r.ensures
    (sym c.is_of.ensures ∙ c.if-is_of.false) c.loop-i.invariant

pub returns : goal.returns
returns g c =
    found-none (λ (r : Request). r.job == c.args.n) (g.L.LockTable.requests c.args.locks.now) c.loop-i.i (omega arith) c.loop-i.invariant
