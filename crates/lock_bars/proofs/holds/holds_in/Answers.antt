use Rattle.std.proofs.Common.{◌++◌, ◌∙◌, ap, map}
use Rattle.lock_bars.specs.Holds.{hold_of, holds_of}
use Rattle.lock_bars.proofs.HoldLemmas.{hold-step}
use Rattle.lock_bars.proofs.holds.holds_in.Goals as goal

pub loop-i-preserved : goal.loop-i-preserved
loop-i-preserved g c =
    let requests = g.L.LockTable.requests c.args.table.now in
    hold-step requests c.loop-i.i c.request.result.now c.loop-i.holds.items c.push_holds.new.holds.items (holds_of requests) c.request.ensures
    (c.in_ok-push_holds.ensures ∙ ap (λ b. c.loop-i.holds.items ++ map (hold_of c.request.result.now.job b) c.request.result.now.wants.items) c.granted.ensures)
    c.loop-i.invariant
