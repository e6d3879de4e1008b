-- Every state of a machine is sound.
use Rattle.std.proofs.Common.{◌≤◌, ℕ, List, [], ◌∷◌}
use Rattle.word36.specs.declared.sizes.TheConstants.{MOST_BLOCKS}
use Rattle.machine.specs.declared.event.Event.{Event}
use Rattle.machine.specs.Machine.{S, after, at_boot, happens}
use Rattle.monitor_laws.proofs.Safety.{safe-at_boot, safe-happens}
use Rattle.progress_laws.specs.Kept.{IsSound}
use Rattle.progress_laws.proofs.Numbers.{low_at_boot, low_is_kept}
use Rattle.progress_laws.proofs.Running.{time_at_boot, time_is_kept}
use Rattle.progress_laws.proofs.WellFormed.{well_at_boot, well_is_kept}

pub sound_at_boot : (size blocks quantum : ℕ) → blocks ≤ MOST_BLOCKS → 1 ≤ quantum → IsSound (at_boot size blocks quantum)
sound_at_boot size blocks quantum few some = record {
  safe = safe-at_boot size blocks quantum few;
  time = time_at_boot size blocks quantum some;
  well = well_at_boot size blocks quantum;
  low = low_at_boot size blocks quantum;
}

pub sound_is_kept : (s : S) (e : Event) → IsSound s → IsSound (happens s e).state
sound_is_kept s e h = record {
  safe = safe-happens s e h.safe;
  time = time_is_kept s e h.time;
  well = well_is_kept s e h.safe h.well;
  low = low_is_kept s e h.safe h.low;
}

pub sound_after : (es : List Event) (s : S) → IsSound s → IsSound (after es s)
sound_after [] s h = h
sound_after (e ∷ es) s h = sound_after es (happens s e).state (sound_is_kept s e h)
