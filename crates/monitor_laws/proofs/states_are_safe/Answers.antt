use Rattle.monitor_laws.proofs.Safety.{safe-at_boot, safe-happens}
use Rattle.monitor_laws.proofs.states_are_safe.Goals as goal

pub returns-clause-boot : goal.returns-clause-boot
returns-clause-boot c = safe-at_boot

pub returns-clause-events : goal.returns-clause-events
returns-clause-events c = safe-happens
