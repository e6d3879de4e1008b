use Rattle.std.proofs.Common.{◌++◌, ◌∷◌, ◌∙◌, [], ap}
use Rattle.wait_graph.proofs.RequestLemmas.{take-step}
use Rattle.wait_graph.proofs.copies.requests_in.Goals as goal

pub loop-i-preserved : goal.loop-i-preserved
loop-i-preserved g c =
    let requests = g.L.LockTable.requests c.args.table.now in
    take-step requests c.loop-i.i c.request.result.now c.loop-i.requests.items c.push.new.self.items c.request.ensures
    (c.in_ok-push.ensures.items ∙ ap (λ r. c.loop-i.requests.items ++ r ∷ []) c.copied.ensures)
    c.loop-i.invariant
