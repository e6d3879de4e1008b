use Rattle.ddt_moves.specs.LockCalls.{gives_up_lock}
use Rattle.ddt_moves.proofs.LockCallLemmas.{any_further}
use Rattle.ddt_moves.proofs.lock_calls.gives_up_some.Goals as goal

pub returns-then-gives_up_lock : goal.returns-then-gives_up_lock
returns-then-gives_up_lock c =
    let test = gives_up_lock c.args.asked.now c.args.job c.args.name.now in
    let requests = c.args.machine.now.world.requests in
    let more = any_further test requests c.loop-i.i c.request.result.now c.gives_up_lock.result c.request.ensures c.gives_up_lock.ensures c.loop-i.invariant in
    rw c.if-gives_up_lock.true at more

pub loop-i-preserved : goal.loop-i-preserved
loop-i-preserved c =
    let test = gives_up_lock c.args.asked.now c.args.job c.args.name.now in
    let requests = c.args.machine.now.world.requests in
    let more = any_further test requests c.loop-i.i c.request.result.now c.gives_up_lock.result c.request.ensures c.gives_up_lock.ensures c.loop-i.invariant in
    rw c.if-gives_up_lock.false at more
