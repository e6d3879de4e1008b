use Rattle.std.proofs.Common.{◌≡◌, drop}
use Rattle.run_events.specs.Grants.{waiting_id}
use Rattle.run_events.proofs.grants.waiting_id.Given as goal

abbrev pub invariant-loop-r : goal.invariant-loop-r
invariant-loop-r l = waiting_id (drop l.r-index l.before) l.job ≡ waiting_id l.before l.job
