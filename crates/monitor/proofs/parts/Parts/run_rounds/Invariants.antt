use Rattle.std.proofs.Common.{◌≡◌, ◌+◌, ◌≤◌, Bool, not, nat_eq}
use Rattle.machine.specs.Machine.{after, answers}
use Rattle.machine.specs.Rounds.{rounds, runs_in}
use Rattle.machine.specs.Safe.{Safe}
use Rattle.monitor.proofs.parts.Parts.run_rounds.Given as goal

-- the rounds that are left lead where all of them do
abbrev pub invariant-loop-left : goal.invariant-loop-left
invariant-loop-left g l =
    let ticking : Bool = not (nat_eq g.row.TICKING 0) in
    record {
      safe : Safe l.self;
      few : l.idle + l.left ≤ l.most;
      rest : after (rounds l.left ticking) l.self ≡ after (rounds l.most ticking) l.fn.self;
      count : runs_in (answers (rounds l.left ticking) l.self) + l.most ≡ runs_in (answers (rounds l.most ticking) l.fn.self) + l.left + l.idle;
    }

abbrev pub decreases-loop-left : goal.decreases-loop-left
decreases-loop-left g l = l.left
