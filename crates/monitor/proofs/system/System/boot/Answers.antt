use Rattle.progress_laws.proofs.Kept.{sound_at_boot}
use Rattle.monitor.proofs.system.System.boot.Goals as goal

pub invariant_of-result : goal.invariant_of-result
invariant_of-result g c = rw c.in_ok-parts.ensures.state (sound_at_boot _ _ _ c.in_ok-parts.ensures.few c.in_ok-parts.ensures.some_ticks)
