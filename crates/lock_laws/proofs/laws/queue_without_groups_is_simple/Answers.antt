use Rattle.lock_laws.proofs.SimpleQueue.{requests_are_simple, calls_are_simple, spelling_is_simple}
use Rattle.lock_laws.proofs.laws.queue_without_groups_is_simple.Goals as goal

pub returns-clause-requests : goal.returns-clause-requests
returns-clause-requests c = requests_are_simple

pub returns-clause-calls : goal.returns-clause-calls
returns-clause-calls c = calls_are_simple

pub returns-clause-spelling : goal.returns-clause-spelling
returns-clause-spelling c = spelling_is_simple
