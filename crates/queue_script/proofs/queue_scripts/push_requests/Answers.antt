use Rattle.std.proofs.Common.{◌++◌, ◌∙◌, ap}
use Rattle.queue_script.specs.Printing.{request_line}
use Rattle.queue_script.specs.QueueScripts.{shown_from}
use Rattle.queue_script.proofs.ShownLemmas.{shown-step}
use Rattle.queue_script.proofs.queue_scripts.push_requests.Goals as goal

pub loop-i-preserved : goal.loop-i-preserved
loop-i-preserved g c =
    let requests = g.L.LockTable.requests c.args.table.now in
    shown-step requests c.loop-i.i c.request.result.now c.loop-i.out.items c.push_request.new.out.items
    (c.args.out.now.items ++ shown_from requests 0 requests) c.request.ensures
    (c.in_ok-push_request.ensures ∙ ap (λ b. c.loop-i.out.items ++ request_line b c.request.result.now) c.granted.ensures)
    c.loop-i.invariant
