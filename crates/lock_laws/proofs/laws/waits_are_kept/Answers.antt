use Rattle.lock_laws.proofs.WaitLaws.{waiting_is_kept, jobs_are_kept}
use Rattle.lock_laws.proofs.Withdrawals.{withdrawing_ends_waits}
use Rattle.lock_laws.proofs.laws.waits_are_kept.Goals as goal

pub returns-clause-waiting : goal.returns-clause-waiting
returns-clause-waiting c = waiting_is_kept

pub returns-clause-jobs : goal.returns-clause-jobs
returns-clause-jobs c = jobs_are_kept

pub returns-clause-withdrawals : goal.returns-clause-withdrawals
returns-clause-withdrawals c = withdrawing_ends_waits
