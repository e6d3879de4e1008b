use Rattle.std.proofs.Common.{◌≡◌, ◌-◌, replicate}
use Rattle.machine.specs.Machine.{after}
use Rattle.op_script.proofs.events.repeat.Given as goal

abbrev pub invariant-times : goal.invariant-times
invariant-times g l = after (replicate (l.times - l.counter) l.event) l.machine ≡ after (replicate l.times l.event) l.initial.machine
