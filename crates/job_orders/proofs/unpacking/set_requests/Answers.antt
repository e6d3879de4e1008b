use Rattle.std.proofs.Common.{◌<◌, length, arith}
use Rattle.job_orders.proofs.Asked.{asked-more, asked-well}
use Rattle.job_orders.proofs.unpacking.set_requests.Goals as goal

pub set_request-requires-clause-well : goal.set_request-requires-clause-well
set_request-requires-clause-well c =
    let low : c.loop-number.number-index < length c.args.numbers.now = omega arith in
    asked-well c.args.requests.now c.args.numbers.now c.loop-number.number-index c.part.result.now low c.requires.within c.part.ensures c.requires.well

pub loop-number-preserved : goal.loop-number-preserved
loop-number-preserved c =
    let low : c.loop-number.number-index < length c.args.numbers.now = omega arith in
    asked-more c.args.requests.now c.args.numbers.now c.loop-number.number-index c.part.result.now low c.requires.within c.part.ensures
    c.loop-number.locks.rows.present c.set_request.new.locks.rows.present c.set_request.ensures c.loop-number.invariant
