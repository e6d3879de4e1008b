use Rattle.std.proofs.Common.{◌<◌, ◌≤◌, ap, map, arith}
use Rattle.lock_bars.specs.Lanes.{lanes_of, locks_of, row_of}
use Rattle.lock_bars.proofs.EachJob.{each_start, each_step, each_end}
use Rattle.wait_graph.specs.declared.pairs.TheConstants.{NUMBERS}
use Rattle.lock_bars.proofs.lanes.lanes_of.Goals as goal

pub loop-job-init : goal.loop-job-init
loop-job-init c = each_start (locks_of c.args.bars.now) (map row_of c.new-lanes.result.items) (ap (map row_of) c.new-lanes.ensures.items)

pub loop-job-preserved : goal.loop-job-preserved
loop-job-preserved c =
    let within : c.loop-job.job < NUMBERS = omega arith in
    each_step (locks_of c.args.bars.now) c.loop-job.job (map row_of c.loop-job.lanes.items) (map row_of c.push_lanes_of.new.lanes.items)
    (lanes_of c.args.bars.now) within c.in_ok-push_lanes_of.ensures c.loop-job.invariant

pub returns : goal.returns
returns c =
    let end : NUMBERS ≤ c.loop-job.job = omega arith in
    each_end (locks_of c.args.bars.now) c.loop-job.job (map row_of c.loop-job.lanes.items) (lanes_of c.args.bars.now) end c.loop-job.invariant
