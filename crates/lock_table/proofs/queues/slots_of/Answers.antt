use Rattle.std.proofs.Common.{sym, refl, arith}
use Rattle.lock_table.proofs.Queued.{queue_is}
use Rattle.key_queues.proofs.Finding.{in_use_parts}
use Rattle.lock_table.specs.TableStates.{state_of}
use Rattle.lock_table.proofs.Reading.{unused_at}
use Rattle.lock_table.proofs.queues.slots_of.Goals as goal

pub returns-in-None-clause-slots : goal.returns-in-None-clause-slots
returns-in-None-clause-slots g c s t = sym (unused_at (state_of s c.args.keys.now) c.args.key.now t (c.in-None.ensures.none refl))

pub returns-in-Some-clause-slots : goal.returns-in-Some-clause-slots
returns-in-Some-clause-slots g c = grind (arith, in_use_parts, queue_is)
