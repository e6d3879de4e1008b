use Rattle.std.proofs.Common.{◌≡◌, drop}
use Rattle.std.specs.List.{find}
use Rattle.lock_reasons.specs.Meetings.{meets}
use Rattle.lock_reasons.proofs.meetings.first_met.Given as goal

abbrev pub invariant-loop-v : goal.invariant-loop-v
invariant-loop-v l = find (meets l.rule l.w) (drop l.v-index l.wants) ≡ find (meets l.rule l.w) l.wants
