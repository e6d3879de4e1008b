use Rattle.std.proofs.Common.{None, map, take}
use Rattle.key_queues.specs.Kept.{IsQueueOf}
use Rattle.lock_table.specs.Changing.{want_then}
use Rattle.lock_table.proofs.change.fitting_then.Given as goal

abbrev pub invariant-loop-p : goal.invariant-loop-p
invariant-loop-p g l = IsQueueOf None (map (want_then l.store l.n l.job l.c) (take l.p-index l.slots)) l.queue
