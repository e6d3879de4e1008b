use Rattle.std.proofs.Common.{arith, lit<}
use Rattle.lock_queue.proofs.StatusLaws.{status_with_owner, status_with_waiter}
use Rattle.lock_table.proofs.Telling.{status_is}
use Rattle.std.proofs.lemmas.Grind.{common_steps}
use Rattle.lock_queue.specs.Queue.{names}
use Rattle.lock_table.specs.Reads.{request_at}
use Rattle.lock_table.proofs.Reading.{slot_kept}
use Rattle.lock_table.proofs.status.status_of.Goals as goal

pub get-f-requires : goal.get-f-requires
get-f-requires g c =
    let s = c.args.store.now in (
      lit< tt,
      slot_kept (λ p. names (request_at s p).wants.items c.args.key.now) s.order _ _ (c.slots_of-slots.ensures.slots s c.requires.table)
          (omega (arith, c.loop-i-test.true, c.loop-i.invariant.there)),
    )

pub loop-i-preserved : goal.loop-i-preserved
loop-i-preserved g c = grind (arith, common_steps, status_is, status_with_owner, status_with_waiter)

pub returns : goal.returns
returns g c = grind (arith, status_is, status_with_owner, status_with_waiter)

pub loop-i-init : goal.loop-i-init
loop-i-init g c = grind (arith, common_steps)

pub loop-i-preserved-then-f : goal.loop-i-preserved-then-f
loop-i-preserved-then-f g c = grind (arith, common_steps)
