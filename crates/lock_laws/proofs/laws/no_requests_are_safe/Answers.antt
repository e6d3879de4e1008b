use Rattle.std.proofs.Common.{[]}
use Rattle.lock_laws.proofs.Circling.{by_latest, waits-none}
use Rattle.lock_laws.proofs.Invariant.{safe-kept, kept-none}
use Rattle.lock_laws.proofs.laws.no_requests_are_safe.Goals as goal

pub returns-clause-safe : goal.returns-clause-safe
returns-clause-safe c = λ size. safe-kept size [] (kept-none size)

pub returns-clause-latest : goal.returns-clause-latest
returns-clause-latest c = by_latest [] waits-none
