-- Well-formed requests stay so.
use Rattle.std.proofs.Common.{◌≡◌, ℕ, Bool, true, false, ◌&&◌, cond, List, [], length, nat_le, Option, Some, None, refl}
use Rattle.std.specs.List.{list_all}
use Rattle.std.proofs.lemmas.Bool.{and_parts, leb-true}
use Rattle.arrayvec.specs.ArrayVec.{ArrayVec}
use Rattle.word36.specs.declared.sizes.TheConstants.{LOCKS_A_CALL}
use Rattle.lock_queue.specs.declared.call.Asking.{Asking}
use Rattle.lock_queue.specs.declared.call.LockCall.{LockCall}
use Rattle.lock_queue.specs.declared.call.LockCall.TheVariants.{Enqueue, Modify, DequeueNamed, DequeueAll, DequeueId}
use Rattle.lock_queue.specs.declared.call.LockReply.TheVariants.{Granted}
use Rattle.lock_queue.specs.declared.refusal.Refusal.{Refusal}
use Rattle.lock_queue.specs.declared.request.EnqueueKind.{EnqueueKind}
use Rattle.lock_queue.specs.declared.request.EnqueueKind.TheVariants.{Blocking, AtOnce, Interrupt}
use Rattle.lock_queue.specs.declared.request.Request.{Request}
use Rattle.lock_queue.specs.declared.want.Want.{Want}
use Rattle.lock_queue.specs.Calls.{outcome_of}
use Rattle.lock_queue.specs.Enqueues.{arrival, enqueue, enqueue_fault, enqueue_refusal, not_granted, with_arrival}
use Rattle.lock_queue.specs.Jobs.{is_interrupt}
use Rattle.lock_queue.specs.Outcomes.{outcome, unless_refused, first_refusal}
use Rattle.lock_queue.specs.Queue.{granted}
use Rattle.lock_queue.specs.WellFormed.{is_in_range, shares_rightly, is_job, are_well_formed, is_call, names_locks, all_share_rightly}
use Rattle.lock_queue.proofs.Refusing.{or_else-None}
use Rattle.lock_queue.proofs.WellKept.{well-arrival, well-modify, well-named, well-all, well-id, well-released, well-withdrawn, well-notified}
use Rattle.lock_laws.specs.Kept.{is_in_range_call, WellFormednessIsKept}

module _ (size : ℕ) (requests : List Request) (job : ℕ) (asking : Asking) (wants : ArrayVec Want)
    (well : are_well_formed requests ≡ true) where
  -- with a request that has passed the requests are well-formed
  abbrev StaysWell : Type 0
  StaysWell = (notified : Bool) → are_well_formed (with_arrival requests job asking notified wants) ≡ true

  well-not_granted : StaysWell → (k : EnqueueKind)
      → are_well_formed (not_granted requests (with_arrival requests job asking false wants) k).requests ≡ true
  well-not_granted arrives Blocking = arrives false
  well-not_granted arrives AtOnce = well
  well-not_granted arrives Interrupt = arrives false

  well-granted : StaysWell → are_well_formed (arrival requests job asking wants).requests ≡ true
  well-granted arrives =
      elim (granted (with_arrival requests job asking false wants) (length requests)) as (λ b.
      are_well_formed
      (cond b (outcome (with_arrival requests job asking (is_interrupt asking.kind) wants) Granted)
      (not_granted requests (with_arrival requests job asking false wants) asking.kind)).requests ≡ true) [
        | true ↦ arrives (is_interrupt asking.kind)
        | false ↦ well-not_granted arrives asking.kind
      ]

  well-enqueue : (first_refusal (enqueue_fault requests job) [] wants.items ≡ None → StaysWell)
      → are_well_formed (enqueue size requests job asking wants).requests ≡ true
  well-enqueue arrives = go (enqueue_refusal size requests job asking wants.items) refl
    where
      go : (o : Option Refusal) → enqueue_refusal size requests job asking wants.items ≡ o
          → are_well_formed (unless_refused requests o (arrival requests job asking wants)).requests ≡ true
      go (Some f) e = well
      go None e = well-granted (arrives (or_else-None (first_refusal (enqueue_fault requests job) [] wants.items) _ e).0)

well-call : (size : ℕ) (requests : List Request) (job : ℕ) (call : LockCall) → is_call job call ≡ true → is_in_range_call call ≡ true
    → are_well_formed requests ≡ true
    → are_well_formed (outcome_of size requests job call).requests ≡ true
well-call size requests job (Enqueue asking wants) right range well =
    let parts = and_parts (is_job job) (names_locks (Enqueue asking wants) && all_share_rightly (Enqueue asking wants)) right in
    let asks = and_parts (nat_le 1 (length wants.items)) (list_all shares_rightly wants.items) parts.1 in
    let types = and_parts (nat_le (length wants.items) LOCKS_A_CALL) (list_all is_in_range wants.items) range in
    well-enqueue size requests job asking wants well (λ passed notified.
    well-arrival requests job asking notified wants parts.0 asks.0 asks.1 passed (leb-true (length wants.items) LOCKS_A_CALL types.0) types.1 well)
well-call size requests job (Modify wants) right range well = well-modify size requests job well wants
well-call size requests job (DequeueNamed wants) right range well = well-named size requests job well wants
well-call size requests job DequeueAll right range well = well-all size requests job well
well-call size requests job (DequeueId id) right range well = well-id size requests job well id

pub well_formedness_is_kept : (size : ℕ) → WellFormednessIsKept size
well_formedness_is_kept size = record {
  by_calls = well-call size;
  by_releases = well-released;
  by_withdrawals = well-withdrawn;
  by_notifying = well-notified;
}
