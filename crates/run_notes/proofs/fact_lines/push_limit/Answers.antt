use Rattle.std.proofs.Common.{rules}
use Rattle.run_notes.proofs.fact_lines.push_limit.Goals as goal

pub returns-in-Some : goal.returns-in-Some
returns-in-Some c = rw c.in-Some.is (rw (← c.number-id.ensures.value) (search rules))
