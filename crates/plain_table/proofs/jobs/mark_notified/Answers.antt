use Rattle.std.proofs.Common.{◌<◌, length, arith}
use Rattle.std.proofs.lemmas.Grind.{common_steps}
use Rattle.lock_queue.proofs.ListSteps.{set_split}
use Rattle.plain_table.proofs.jobs.mark_notified.Goals as goal

pub returns-then-is_pending : goal.returns-then-is_pending
returns-then-is_pending c =
    let lt : c.loop-i.i < length c.loop-i.requests = omega arith in
    grind (arith, common_steps, set_split c.loop-i.requests c.loop-i.i c.set_notified.new.r lt)
