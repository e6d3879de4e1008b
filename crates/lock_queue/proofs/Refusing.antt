-- Where no refusal is found.
use Rattle.std.proofs.Common.{◌≡◌, Bool, true, false, Option, Some, None, refl}
use Rattle.lock_queue.specs.declared.refusal.Refusal.{Refusal}
use Rattle.lock_queue.specs.Outcomes.{refuse_if, or_else}

pub refuse_if-None : (cause : Bool) (f : Refusal) → refuse_if cause f ≡ None → cause ≡ false
refuse_if-None true f h = cc
refuse_if-None false f h = refl

pub or_else-None : (o p : Option Refusal) → or_else o p ≡ None → (o ≡ None) × (p ≡ None)
or_else-None (Some f) p h = absurd (cc)
or_else-None None p h = (refl, h)
