use Rattle.std.proofs.Common.{rules}
use Rattle.lockcheck_program.proofs.refusals.line_text.Goals as goal

pub returns : goal.returns
returns c = (c.as_bytes.result.now, search rules)
