use Rattle.std.proofs.Common.{arith}
use Rattle.std.proofs.lemmas.Grind.{common_steps}
use Rattle.lock_queue.proofs.Removing.{left_on, moved_all, moved_on, none_moved}
use Rattle.key_queues.proofs.queue.remove_at.Goals as goal

pub loop-k-init : goal.loop-k-init
loop-k-init g c = grind (arith, none_moved)

pub loop-k-preserved : goal.loop-k-preserved
loop-k-preserved g c = grind (arith, left_on, moved_on)

pub returns : goal.returns
returns g c = grind (arith, common_steps, moved_all c.args.list.now.items c.loop-k.numbers c.args.i c.loop-k.k)
