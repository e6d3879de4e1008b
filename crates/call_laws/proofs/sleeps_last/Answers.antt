use Rattle.call_laws.proofs.Sleeps.{sleep_begins, sleeps_last}
use Rattle.call_laws.proofs.sleeps_last.Goals as goal

pub returns-clause-begins : goal.returns-clause-begins
returns-clause-begins c = sleep_begins

pub returns-clause-lasts : goal.returns-clause-lasts
returns-clause-lasts c = sleeps_last
