-- Laws of the list of requests.
use Rattle.std.proofs.Common.{◌≡◌, ◌∙◌, ap, ℕ, zero, suc, ◌+◌, ◌<◌, Bool, true, false, if◌then◌else◌, List, [], ◌∷◌, ◌++◌, length}
use Rattle.std.proofs.Common.{get_or, drop, filter, slice_get, Some, refl, arith, sum_by, add-one, length-append}
use Rattle.std.specs.List.{list_all}
use Rattle.std.proofs.Math.Seq.{get_or-append_seam, take-append_seam}
use Rattle.std.proofs.lemmas.List.Elements.{filter-append}
use Rattle.std.proofs.lemmas.List.Sums.{sum_by-append}
use Rattle.std.proofs.lemmas.Option.{slice_get-get_or}
use Rattle.arrayvec.specs.ArrayVec.{ArrayVec}
use Rattle.lock_queue.specs.declared.call.Asking.{Asking}
use Rattle.lock_queue.specs.declared.call.LockReply.TheVariants.{Granted}
use Rattle.lock_queue.specs.declared.key.Key.{Key}
use Rattle.lock_queue.specs.declared.request.Request.{Request}
use Rattle.lock_queue.specs.declared.want.Want.{Want}
use Rattle.lock_queue.specs.Enqueues.{arrival, request_of, with_arrival, not_granted}
use Rattle.lock_queue.specs.Jobs.{is_interrupt}
use Rattle.lock_queue.specs.Keys.{same_key}
use Rattle.lock_queue.specs.Outcomes.{Outcome, outcome}
use Rattle.lock_queue.specs.Queue.{all_wants, wants_at, amount_of, fits, granted, granted_behind, is_granted}

-- the last request is granted where it is behind all others
pub granted_last : (rs : List Request) (r : Request) → granted (rs ++ r ∷ []) (length rs) ≡ granted_behind rs r
granted_last rs r =
    let there : slice_get (rs ++ r ∷ []) (length rs) ≡ Some r =
    slice_get-get_or (rs ++ r ∷ []) (length rs) r (omega (arith, length-append rs (r ∷ [])))
    ∙ ap Some (get_or-append_seam rs r [] r) in
    ap (λ rest. is_granted rest (slice_get (rs ++ r ∷ []) (length rs))) (take-append_seam rs (r ∷ [])) ∙ ap (is_granted rs) there

-- what a request leaves that arrives, by whether it is granted
abbrev arrived : List Request → ℕ → Asking → ArrayVec Want → Bool → Outcome
arrived rs job asking wants is_granted =
    if is_granted
    then outcome (with_arrival rs job asking (is_interrupt asking.kind) wants) Granted
    else not_granted rs (with_arrival rs job asking false wants) asking.kind

-- a request that fits is granted, and the others are judged by their kind
pub arrival_granted : (rs : List Request) (job : ℕ) (asking : Asking) (wants : ArrayVec Want)
    → list_all (fits rs) wants.items ≡ true
    → arrival rs job asking wants ≡ outcome (with_arrival rs job asking (is_interrupt asking.kind) wants) Granted
arrival_granted rs job asking wants h =
    ap (arrived rs job asking wants) (granted_last rs (request_of job asking false wants) ∙ h)

pub arrival_waiting : (rs : List Request) (job : ℕ) (asking : Asking) (wants : ArrayVec Want)
    → list_all (fits rs) wants.items ≡ false
    → arrival rs job asking wants ≡ not_granted rs (with_arrival rs job asking false wants) asking.kind
arrival_waiting rs job asking wants h =
    ap (arrived rs job asking wants) (granted_last rs (request_of job asking false wants) ∙ h)

-- the amounts of a key from the request at i on
pub amounts_drop : (key : Key) (rs : List Request) (i : ℕ) (r : Request) → i < length rs → r ≡ get_or rs i r
    → sum_by amount_of (wants_at (drop i rs) key)
    ≡ sum_by amount_of (filter (λ v. same_key v.key key) r.wants.items) + sum_by amount_of (wants_at (drop (i + 1) rs) key)
amounts_drop key [] i r lt is = absurd (omega arith)
amounts_drop key (x ∷ rs) zero r lt is =
    rw (
      filter-append (λ v. same_key v.key key) x.wants.items (all_wants rs),
      sum_by-append amount_of (filter (λ v. same_key v.key key) x.wants.items) (wants_at rs key),
      is,
    ) refl
amounts_drop key (x ∷ rs) (suc i) r lt is =
    rw (add-one (suc i)) (amounts_drop key rs i r (omega arith) is ∙ rw (add-one i) refl)
