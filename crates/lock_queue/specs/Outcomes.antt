-- What a call leaves and answers, and how its refusal is found (this project's profile).
use Rattle.std.specs.Prelude.{Bool, if◌then◌else◌, List, [], ◌∷◌, ◌++◌, Option, Some, None}
use Rattle.lock_queue.specs.declared.call.LockReply.{LockReply}
use Rattle.lock_queue.specs.declared.call.LockReply.TheVariants.{Refused}
use Rattle.lock_queue.specs.declared.refusal.Refusal.{Refusal}
use Rattle.lock_queue.specs.declared.request.Request.{Request}
use Rattle.lock_queue.specs.declared.want.Want.{Want}

-- the list of requests after a call, and its answer
pub record Outcome : Type 0 where
  pub requests : List Request
  pub reply : LockReply

abbrev pub outcome : List Request → LockReply → Outcome
outcome requests reply = record { requests = requests; reply = reply }

-- a refused call changes no request
abbrev pub unless_refused : List Request → Option Refusal → Outcome → Outcome
unless_refused requests (Some refusal) performed = outcome requests (Refused refusal)
unless_refused requests None performed = performed

-- a refusal where there is cause for it
abbrev pub refuse_if : Bool → Refusal → Option Refusal
refuse_if cause refusal = if cause then Some refusal else None

-- the first of two refusals, if any
abbrev pub or_else : Option Refusal → Option Refusal → Option Refusal
or_else (Some refusal) later = Some refusal
or_else None later = later

-- the first refusal of the wants of a call, lock by lock, each judged after the call's wants before it
abbrev pub first_refusal : (List Want → Want → Option Refusal) → List Want → List Want → Option Refusal
first_refusal refusal earlier [] = None
first_refusal refusal earlier (w ∷ later) =
    or_else (refusal earlier w) (first_refusal refusal (earlier ++ w ∷ []) later)
