use Rattle.std.proofs.Common.{rules}
use Rattle.run_notes.proofs.fact_lines.push_quota.Goals as goal

pub returns : goal.returns
returns c = rw (← c.left-quota.ensures.value, ← c.right-requests.ensures.value) (search rules)
