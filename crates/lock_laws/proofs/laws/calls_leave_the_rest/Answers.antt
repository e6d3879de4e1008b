use Rattle.lock_laws.proofs.LeavingLaws.{arrivals_grant_nobody, list_is_what_is_left}
use Rattle.lock_laws.proofs.laws.calls_leave_the_rest.Goals as goal

pub returns-clause-arrivals : goal.returns-clause-arrivals
returns-clause-arrivals c = arrivals_grant_nobody

pub returns-clause-left : goal.returns-clause-left
returns-clause-left c = list_is_what_is_left
