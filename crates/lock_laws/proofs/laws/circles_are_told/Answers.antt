use Rattle.lock_laws.proofs.CirclesTold.{circles_are_told, plain_jobs_are_in_no_circle}
use Rattle.lock_laws.proofs.laws.circles_are_told.Goals as goal

pub returns-clause-told : goal.returns-clause-told
returns-clause-told c = circles_are_told

pub returns-clause-plain : goal.returns-clause-plain
returns-clause-plain c = plain_jobs_are_in_no_circle
