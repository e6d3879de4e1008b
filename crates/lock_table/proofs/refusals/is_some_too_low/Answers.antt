use Rattle.std.proofs.Common.{◌∙◌, ap, append-nil, List, arith}
use Rattle.lock_queue.specs.declared.want.Want.{Want}
use Rattle.lock_queue.specs.Enqueues.{some_too_low}
use Rattle.lock_queue.specs.Queue.{all_wants}
use Rattle.lock_table.specs.Reads.{requests_at}
use Rattle.lock_table.proofs.Faults.{too_low_at}
use Rattle.lock_table.proofs.Reading.{wants_of_own, present_at}
use Rattle.lock_table.proofs.refusals.is_some_too_low.Goals as goal

pub loop-i-init : goal.loop-i-init
loop-i-init g c =
    ap (λ (ws : List Want). some_too_low ws c.args.wants.now) (append-nil _ ∙ wants_of_own c.args.store.now c.args.job _ c.of_job-own.ensures)

pub reach_level_at-requires : goal.reach_level_at-requires
reach_level_at-requires g c = grind (arith, present_at)

pub loop-i-preserved : goal.loop-i-preserved
loop-i-preserved g c =
    grind (arith, too_low_at (all_wants (requests_at c.args.store.now c.of_job-own.result.now)) c.args.wants.now c.loop-i.i c.index-wants-i.result c.loop-i-test.true c.index-wants-i.is)

pub returns-then-reach_level : goal.returns-then-reach_level
returns-then-reach_level g c =
    grind (arith, too_low_at (all_wants (requests_at c.args.store.now c.of_job-own.result.now)) c.args.wants.now c.loop-i.i c.index-wants-i.result c.loop-i-test.true c.index-wants-i.is)
