use Rattle.lock_laws.proofs.AlongCalls.{always_safe, always_keeps_owners, never_plain_circle}
use Rattle.lock_laws.proofs.runs.run_safely.Goals as goal

pub returns-clause-safe : goal.returns-clause-safe
returns-clause-safe g c = always_safe _ _

pub returns-clause-owners : goal.returns-clause-owners
returns-clause-owners g c = always_keeps_owners _ _

pub returns-clause-circles : goal.returns-clause-circles
returns-clause-circles g c = never_plain_circle _ _
