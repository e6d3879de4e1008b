use Rattle.std.proofs.Common.{◌≡◌, ◌++◌, take, drop}
use Rattle.machine.specs.Machine.{after, answers}
use Rattle.monitor.proofs.system.System.run.Given as goal

-- the answers so far and those to what is left are those to all
abbrev pub invariant-loop-i : goal.invariant-loop-i
invariant-loop-i g l = record {
  answered : take l.i l.replies ++ answers (drop l.i l.events) l.self ≡ answers l.events l.fn.self;
  rest : after (drop l.i l.events) l.self ≡ after l.events l.fn.self;
}
