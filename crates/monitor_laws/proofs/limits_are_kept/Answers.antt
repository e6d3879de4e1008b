use Rattle.monitor_laws.proofs.Limiting.{counts, grants_stop, leave_their_code, limits_are_kept}
use Rattle.monitor_laws.proofs.limits_are_kept.Goals as goal

pub returns-clause-ticks : goal.returns-clause-ticks
returns-clause-ticks c = counts

pub returns-clause-codes : goal.returns-clause-codes
returns-clause-codes c = leave_their_code

pub returns-clause-grants : goal.returns-clause-grants
returns-clause-grants c = grants_stop

pub returns-clause-runs : goal.returns-clause-runs
returns-clause-runs c = limits_are_kept
