-- Every state of a run is safe, so in each of them jobs wait for grants alone, and none has a circle of plain jobs.
use Rattle.std.proofs.Common.{zero, suc, List, [], ◌∷◌}
use Rattle.machine.specs.Along.{Always}
use Rattle.machine.specs.Machine.{S, happens}
use Rattle.machine.specs.Safe.{Safe}
use Rattle.machine.specs.declared.event.Event.{Event}
use Rattle.machine.specs.Waits.{WaitsForGrants}
use Rattle.monitor_laws.proofs.Waiting.{waits_for_grants}
use Rattle.lock_laws.specs.Circles.{NoPlainCircle}
use Rattle.monitor_laws.proofs.Safety.{safe-happens, no-circle}

pub always_safe : (s : S) (es : List Event) → Safe s → Always Safe s es
always_safe s [] h zero = h
always_safe s [] h (suc k) = h
always_safe s (e ∷ es) h zero = h
always_safe s (e ∷ es) h (suc k) = always_safe (happens s e).state es (safe-happens s e h) k

pub always_waits : (s : S) (es : List Event) → Safe s → Always (λ t. WaitsForGrants t.world) s es
always_waits s es h k = waits_for_grants _ (always_safe s es h k)

pub never_circle : (s : S) (es : List Event) → Safe s → Always (λ t. NoPlainCircle t.world.requests) s es
never_circle s es h k = no-circle _ (always_safe s es h k)
