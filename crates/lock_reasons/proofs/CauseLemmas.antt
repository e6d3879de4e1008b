-- A cause is there exactly where a call is neither done nor granted.
use Rattle.std.proofs.Common.{◌≡◌, ◌∙◌, ap, sym, refl, ℕ, Bool, true, false, not, List, Option, Some, None, option_map, is_some, cond, filter, []}
use Rattle.std.specs.List.{list_all, list_any}
use Rattle.arrayvec.specs.ArrayVec.{ArrayVec}
use Rattle.lock_queue.specs.declared.call.Asking.{Asking}
use Rattle.lock_queue.specs.declared.call.LockCall.{LockCall}
use Rattle.lock_queue.specs.declared.call.LockCall.TheVariants.{Enqueue, Modify, DequeueNamed, DequeueAll, DequeueId}
use Rattle.lock_queue.specs.declared.call.LockReply.{LockReply}
use Rattle.lock_queue.specs.declared.call.LockReply.TheVariants as reply
use Rattle.lock_queue.specs.declared.refusal.Refusal.{Refusal}
use Rattle.lock_queue.specs.declared.refusal.Refusal.TheVariants as refusal
use Rattle.lock_queue.specs.declared.request.EnqueueKind.{EnqueueKind}
use Rattle.lock_queue.specs.declared.request.EnqueueKind.TheVariants.{Blocking, AtOnce, Interrupt}
use Rattle.lock_queue.specs.declared.request.Request.{Request}
use Rattle.lock_queue.specs.declared.want.Want.{Want}
use Rattle.lock_queue.specs.Calls.{outcome_of}
use Rattle.lock_queue.specs.Changes.{with_changes}
use Rattle.lock_queue.specs.Dequeues.{dequeue_fault, dequeue_where, has_id, is_of_job, without_named}
use Rattle.lock_queue.specs.Enqueues.{arrival, enqueue_refusal, not_granted, with_arrival}
use Rattle.lock_queue.specs.Outcomes.{Outcome, outcome, unless_refused, first_refusal}
use Rattle.lock_queue.specs.Queue.{fits}
use Rattle.lock_queue.proofs.Granted.{arrival_granted, arrival_waiting}
use Rattle.lock_reasons.specs.declared.reasons.Reason.{Reason}
use Rattle.lock_reasons.specs.declared.reasons.Reason.TheVariants.{NotGranted}
use Rattle.lock_reasons.specs.Causes.{cause_for, is_done, unfit_cause, unfit_in}
use Rattle.lock_reasons.specs.Reasons.{first_unfit, refusal_in, refusal_of}
use Rattle.lock_reasons.proofs.ReasonLemmas.{unfit-found}

refused-is-not-done : (f : Refusal) (r : LockReply) → Some f ≡ refusal_of r → not (is_done r) ≡ true
refused-is-not-done f reply.Granted h = absurd (cc)
refused-is-not-done f reply.Queued h = refl
refused-is-not-done f reply.Done h = absurd (cc)
refused-is-not-done f (reply.Refused g) h = refl

-- a call that is done where it is not refused
done-then : (rs : List Request) (o : Option Refusal) (e : Outcome) → is_done e.reply ≡ true → None ≡ refusal_of (unless_refused rs o e).reply
    → false ≡ not (is_done (unless_refused rs o e).reply)
done-then rs (Some f) e h k = absurd (cc)
done-then rs None e h k = sym (ap not h)

done-where : (rs : List Request) (test : Request → Bool) → None ≡ refusal_of (dequeue_where rs test).reply
    → false ≡ not (is_done (dequeue_where rs test).reply)
done-where rs test = go (list_any test rs)
  where
    go : (b : Bool)
        → None ≡ refusal_of (Outcome.reply (cond b (outcome (filter (λ r. not (test r)) rs) reply.Done) (outcome rs (reply.Refused refusal.NotPresent))))
        → false ≡ not (is_done (Outcome.reply (cond b (outcome (filter (λ r. not (test r)) rs) reply.Done) (outcome rs (reply.Refused refusal.NotPresent)))))
    go true h = refl
    go false h = absurd (cc)

not-granted : (rs l : List Request) (kind : EnqueueKind) → true ≡ not (is_done (not_granted rs l kind).reply)
not-granted rs l Blocking = refl
not-granted rs l AtOnce = refl
not-granted rs l Interrupt = refl

-- a request that arrives is granted exactly where no want of it does not fit
arrives : (rs : List Request) (job : ℕ) (asking : Asking) (wants : ArrayVec Want)
    → is_some (first_unfit rs wants.items) ≡ not (is_done (arrival rs job asking wants).reply)
arrives rs job asking wants = go (list_all (fits rs) wants.items) refl
  where
    go : (b : Bool) → list_all (fits rs) wants.items ≡ b
        → is_some (first_unfit rs wants.items) ≡ not (is_done (arrival rs job asking wants).reply)
    go true h =
        unfit-found rs wants.items ∙ ap not h
        ∙ sym (ap (λ o. not (is_done (Outcome.reply o))) (arrival_granted rs job asking wants h))
    go false h =
        unfit-found rs wants.items ∙ ap not h
        ∙ not-granted rs (with_arrival rs job asking false wants) asking.kind
        ∙ sym (ap (λ o. not (is_done (Outcome.reply o))) (arrival_waiting rs job asking wants h))

enters : (rs : List Request) (o : Option Refusal) (e : Outcome) (unfit : Bool) → unfit ≡ not (is_done e.reply)
    → None ≡ refusal_of (unless_refused rs o e).reply
    → unfit ≡ not (is_done (unless_refused rs o e).reply)
enters rs (Some f) e unfit h k = absurd (cc)
enters rs None e unfit h k = h

not-refused : (size : ℕ) (rs : List Request) (job : ℕ) (call : LockCall) → None ≡ refusal_of (outcome_of size rs job call).reply
    → is_some (unfit_in rs call) ≡ not (is_done (outcome_of size rs job call).reply)
not-refused size rs job (Enqueue asking wants) h =
    enters rs (enqueue_refusal size rs job asking wants.items) (arrival rs job asking wants) _ (arrives rs job asking wants) h
not-refused size rs job (Modify wants) h = done-then rs _ (outcome (with_changes rs job wants.items) reply.Done) refl h
not-refused size rs job (DequeueNamed wants) h =
    done-then rs (first_refusal (dequeue_fault rs job) [] wants.items) (outcome (without_named rs job wants.items) reply.Done) refl h
not-refused size rs job DequeueAll h = done-where rs (is_of_job job) h
not-refused size rs job (DequeueId id) h = done-where rs (has_id job id) h

of-unfit : (rs : List Request) (o : Option Want) → is_some (option_map (unfit_cause rs) o) ≡ is_some o
of-unfit rs (Some w) = refl
of-unfit rs None = refl

is-there : (rs : List Request) (call : LockCall) (reason : Reason) → is_some (cause_for rs call (Some reason)) ≡ true
is-there rs call (NotGranted w) = refl
is-there rs call reason = refl

pub cause-law : (size : ℕ) (rs : List Request) (job : ℕ) (call : LockCall) (o : Option Reason)
    → option_map refusal_in o ≡ refusal_of (outcome_of size rs job call).reply
    → is_some (cause_for rs call o) ≡ not (is_done (outcome_of size rs job call).reply)
cause-law size rs job call (Some reason) h = is-there rs call reason ∙ sym (refused-is-not-done (refusal_in reason) _ h)
cause-law size rs job call None h = of-unfit rs (unfit_in rs call) ∙ not-refused size rs job call h
