use Rattle.std.proofs.Common.{◌≡◌}
use Rattle.machine.specs.Alone.{taken_from}
use Rattle.machine.specs.Machine.{after}
use Rattle.ten.specs.Events.{takes}
use Rattle.ten.specs.Writing.{Writes}
use Rattle.ten.proofs.session.take_output.Given as goal

-- that many takes were made, and what they took is written
abbrev pub invariant-loop : goal.invariant-loop
invariant-loop l = record {
  state : l.machine ≡ after (takes l.fn.terminal.line l.counter) l.fn.machine;
  writes : Writes l.fn.terminal l.terminal l.fn.output l.output (taken_from l.fn.terminal.line l.fn.machine (takes l.fn.terminal.line l.counter));
}
