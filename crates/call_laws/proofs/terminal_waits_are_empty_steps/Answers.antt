use Rattle.call_laws.proofs.TerminalWaits.{who_waits_made_an_empty_step}
use Rattle.call_laws.proofs.terminal_waits_are_empty_steps.Goals as goal

pub returns : goal.returns
returns c = who_waits_made_an_empty_step
