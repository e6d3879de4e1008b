-- What a call leaves.
use Rattle.std.proofs.Common.{◌≡◌, ◌<◌, ◌∙◌, ap, ℕ, zero, suc, Bool, true, false, List, [], ◌∷◌, ◌++◌, length, take}
use Rattle.std.proofs.Common.{Option, Some, None, slice_get, if◌then◌else◌, arith, refl}
use Rattle.lock_queue.specs.Enqueues.{not_granted, arrival, enqueue_refusal}
use Rattle.lock_queue.specs.Outcomes.{Outcome, unless_refused}
use Rattle.lock_queue.specs.Queue.{granted, is_granted}
use Rattle.lock_queue.specs.declared.refusal.Refusal.{Refusal}
use Rattle.lock_queue.specs.declared.request.EnqueueKind.{EnqueueKind}
use Rattle.lock_queue.specs.declared.request.EnqueueKind.TheVariants.{Blocking, AtOnce, Interrupt}
use Rattle.lock_queue.specs.declared.request.Request.{Request}
use Rattle.lock_queue.proofs.GrantLaws.{call-left, released-left}
use Rattle.lock_laws.specs.Leaving.{ArrivalsGrantNobody, ListIsWhatIsLeft}

take-front : (xs : List Request) (x : Request) (i : ℕ) → i < length xs → take i (xs ++ x ∷ []) ≡ take i xs
take-front [] x i h = absurd (omega (arith, h))
take-front (y ∷ ys) x zero h = refl
take-front (y ∷ ys) x (suc i) h = ap (λ l. y ∷ l) (take-front ys x i (omega (arith, h)))

get-front : (xs : List Request) (x : Request) (i : ℕ) → i < length xs → slice_get (xs ++ x ∷ []) i ≡ slice_get xs i
get-front [] x i h = absurd (omega (arith, h))
get-front (y ∷ ys) x zero h = refl
get-front (y ∷ ys) x (suc i) h = get-front ys x i (omega (arith, h))

granted-front : (xs : List Request) (x : Request) (i : ℕ) → i < length xs → granted (xs ++ x ∷ []) i ≡ granted xs i
granted-front xs x i h =
    ap (λ l. is_granted l (slice_get (xs ++ x ∷ []) i)) (take-front xs x i h)
    ∙ ap (is_granted (take i xs)) (get-front xs x i h)

unless-kept : (requests : List Request) (i : ℕ) (refusal : Option Refusal) (o : Outcome) → granted o.requests i ≡ granted requests i
    → granted (unless_refused requests refusal o).requests i ≡ granted requests i
unless-kept requests i None o h = h
unless-kept requests i (Some refusal) o h = refl

not-granted-kept : (requests : List Request) (x : Request) (i : ℕ) (kind : EnqueueKind) → i < length requests
    → granted (not_granted requests (requests ++ x ∷ []) kind).requests i ≡ granted requests i
not-granted-kept requests x i Blocking h = granted-front requests x i h
not-granted-kept requests x i AtOnce h = refl
not-granted-kept requests x i Interrupt h = granted-front requests x i h

either-kept : (requests : List Request) (i : ℕ) (b : Bool) (o p : Outcome) → granted o.requests i ≡ granted requests i
    → granted p.requests i ≡ granted requests i
    → granted (if b then o else p).requests i ≡ granted requests i
either-kept requests i true o p h g = h
either-kept requests i false o p h g = g

pub arrivals_grant_nobody : ArrivalsGrantNobody
arrivals_grant_nobody size requests job i asking wants h =
    unless-kept requests i (enqueue_refusal size requests job asking wants.items) (arrival requests job asking wants)
    (either-kept requests i _ _ _ (granted-front requests _ i h) (not-granted-kept requests _ i asking.kind h))

pub list_is_what_is_left : (size : ℕ) → ListIsWhatIsLeft size
list_is_what_is_left size = record { by_calls = call-left size; by_releases = released-left }
