use Rattle.std.proofs.Common.{sym, ◌∙◌}
use Rattle.mac_asm.proofs.OutcomeLemmas.{last_end, no_last}
use Rattle.mac_asm.proofs.assembly.has_end.Goals as goal

pub returns-in-None : goal.returns-in-None
returns-in-None c = sym (no_last c.args.lines.now c.in-None.ensures.value)

pub returns-in-Some : goal.returns-in-Some
returns-in-Some c = c.is_end.ensures ∙ sym (last_end c.args.lines.now c.in-Some.line.now c.in-Some.ensures.value)
