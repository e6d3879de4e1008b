use Rattle.lock_laws.proofs.EveryChange.{latest_is_kept, safe_jobs_make_no_circle}
use Rattle.lock_laws.proofs.laws.waits_are_by_latest.Goals as goal

pub returns-clause-latest : goal.returns-clause-latest
returns-clause-latest c = latest_is_kept

pub returns-clause-circles : goal.returns-clause-circles
returns-clause-circles c = safe_jobs_make_no_circle
