use Rattle.lock_table.proofs.Wholes.{notified_whole}
use Rattle.lock_table.proofs.notifying.set_notified.Goals as goal

pub returns-clause-whole : goal.returns-clause-whole
returns-clause-whole g c size locks w =
    notified_whole c.args.store.now c.set_notified.new.self c.args.p c.set_notified.ensures.within c.set_notified.ensures.value size locks w
