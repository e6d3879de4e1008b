-- Nobody comes in front.
use Rattle.std.proofs.Common.{◌≡◌, ◌∙◌, sym, ap, subst, ℕ, Bool, true, false, not, ◌==◌, cond, refl, List, [], ◌∷◌}
use Rattle.std.proofs.Common.{◌++◌, map, filter, length, Option, Some, None, inl, inr}
use Rattle.std.specs.List.{list_any}
use Rattle.arrayvec.specs.ArrayVec.{ArrayVec}
use Rattle.lock_queue.specs.declared.call.Asking.{Asking}
use Rattle.lock_queue.specs.declared.call.LockCall.{LockCall}
use Rattle.lock_queue.specs.declared.call.LockCall.TheVariants.{Enqueue, Modify, DequeueNamed, DequeueAll, DequeueId}
use Rattle.lock_queue.specs.declared.call.LockReply.TheVariants.{Granted, Done, Refused}
use Rattle.lock_queue.specs.declared.refusal.Refusal.{Refusal}
use Rattle.lock_queue.specs.declared.refusal.Refusal.TheVariants.{NotPresent}
use Rattle.lock_queue.specs.declared.request.EnqueueKind.{EnqueueKind}
use Rattle.lock_queue.specs.declared.request.EnqueueKind.TheVariants.{Blocking, AtOnce, Interrupt}
use Rattle.lock_queue.specs.declared.request.Request.{Request}
use Rattle.lock_queue.specs.declared.want.Want.{Want}
use Rattle.lock_queue.specs.Calls.{outcome_of}
use Rattle.lock_queue.specs.Changes.{changed, changed_group, changed_want, with_changes, modify}
use Rattle.lock_queue.specs.Dequeues.{has_wants, with_wants, without_keys, without_keys_of, without_named, dequeue_named, dequeue_where, is_of_job, has_id}
use Rattle.lock_queue.specs.Enqueues.{arrival, not_granted, with_arrival, enqueue_refusal, enqueue}
use Rattle.lock_queue.specs.Jobs.{is_interrupt, is_not_blocked_where, is_pending, as_notified, notified_behind}
use Rattle.lock_queue.specs.Keys.{same_key}
use Rattle.lock_queue.specs.Outcomes.{Outcome, outcome, unless_refused}
use Rattle.lock_queue.specs.Queue.{chosen_behind, granted}
use Rattle.lock_laws.specs.Owning.{is_dequeue}
use Rattle.progress_laws.specs.Fronts.{IsSame, IsSameButSharing, Remains, LeaveOrCome, NobodyInFront, NobodyComesInFront, is_change}
use Rattle.progress_laws.specs.Thinning.{Thinned}
use Rattle.progress_laws.specs.Thinning.Thinned.{none, stays, leaves}
use Rattle.progress_laws.proofs.Thinning.{thin-same, follows-thin, follows-same, follows-come, thin-filter, thin-map, thin-then, follows-then}

-- what holds of both values holds of the one that a test chooses
by_test : {A : Type 0} (P : A → Type 0) (b : Bool) (x y : A) → P x → P y → P (cond b x y)
by_test P true x y p q = p
by_test P false x y p q = q

-- one relation after another
pub same-then : (u v w : Want) → IsSame u v → IsSame v w → IsSame u w
same-then u v w e f = f ∙ e

pub shared-then : (u v w : Want) → IsSameButSharing u v → IsSameButSharing v w → IsSameButSharing u w
shared-then u v w e f = f ∙ ap (λ (x : Want). record x { shared = w.shared; group = w.group }) e

same-shared : (v w : Want) → IsSame v w → IsSameButSharing v w
same-shared v w e = e ∙ ap (λ (x : Want). record v { shared = x.shared; group = x.group }) (sym e)

module _ (P : Want → Want → Type 0) (same : (w : Want) → P w w) where
  pub remains-same : (r : Request) → Remains P r r
  remains-same r = record { job = refl; id = refl; kind = refl; wants = thin-same P same r.wants.items }

  remains-notified : (r : Request) → Remains P r (as_notified r)
  remains-notified r = record { job = refl; id = refl; kind = refl; wants = thin-same P same r.wants.items }

  remains-fewer : (r : Request) (test : Want → Bool) → Remains P r (with_wants r (filter test r.wants.items))
  remains-fewer r test = record { job = refl; id = refl; kind = refl; wants = thin-filter P same test r.wants.items }

module _ (P Q R : Want → Want → Type 0) (then : (u v w : Want) → P u v → Q v w → R u w) where
  pub remains-then : (r s t : Request) → Remains P r s → Remains Q s t → Remains R r t
  remains-then r s t a b = record {
    job = b.job ∙ a.job;
    id = b.id ∙ a.id;
    kind = b.kind ∙ a.kind;
    wants = thin-then P Q R then a.wants b.wants;
  }

  pub front-then : (a b c : List Request) → NobodyInFront P a b → NobodyInFront Q b c → NobodyInFront R a c
  front-then a b c f g = follows-then (Remains P) (Remains Q) (Remains R) remains-then a b c f g

module _ (P : Want → Want → Type 0) (same : (w : Want) → P w w) where
  pub stay-same : (requests : List Request) → Thinned (Remains P) requests requests
  stay-same requests = thin-same (Remains P) (remains-same P same) requests

  pub front-same : (requests : List Request) → NobodyInFront P requests requests
  front-same requests = follows-same (Remains P) (remains-same P same) requests

  pub front-one : (job : ℕ) (requests later : List Request) → LeaveOrCome P job requests later → NobodyInFront P requests later
  front-one job requests later (inl t) = follows-thin (Remains P) (remains-same P same) requests later t
  front-one job requests later (inr h) =
      subst (λ l. NobodyInFront P requests l) (sym h.2) (follows-come (Remains P) (remains-same P same) requests (h.0 ∷ []))

  -- a refused call
  unless-refused : (job : ℕ) (requests : List Request) (o : Option Refusal) (p : Outcome) → LeaveOrCome P job requests p.requests
      → LeaveOrCome P job requests (unless_refused requests o p).requests
  unless-refused job requests (Some refusal) p h = inl (stay-same requests)
  unless-refused job requests None p h = h

  thin-unless : (requests : List Request) (o : Option Refusal) (p : Outcome) → Thinned (Remains P) requests p.requests
      → Thinned (Remains P) requests (unless_refused requests o p).requests
  thin-unless requests (Some refusal) p h = stay-same requests
  thin-unless requests None p h = h

  -- an arrival
  come-not_granted : (requests : List Request) (r : Request) (kind : EnqueueKind)
      → LeaveOrCome P r.job requests (not_granted requests (requests ++ r ∷ []) kind).requests
  come-not_granted requests r Blocking = inr (r, refl, refl)
  come-not_granted requests r AtOnce = inl (stay-same requests)
  come-not_granted requests r Interrupt = inr (r, refl, refl)

  come-enqueue : (size : ℕ) (requests : List Request) (job : ℕ) (asking : Asking) (wants : ArrayVec Want)
      → LeaveOrCome P job requests (enqueue size requests job asking wants).requests
  come-enqueue size requests job asking wants =
      unless-refused job requests (enqueue_refusal size requests job asking wants.items) (arrival requests job asking wants)
      (by_test (λ (o : Outcome). LeaveOrCome P job requests o.requests)
      (granted (with_arrival requests job asking false wants) (length requests))
      (outcome (with_arrival requests job asking (is_interrupt asking.kind) wants) Granted)
      (not_granted requests (with_arrival requests job asking false wants) asking.kind)
      (inr (_, refl, refl))
      (come-not_granted requests _ asking.kind))

  -- wants that are given up
  remains-without : (job : ℕ) (named : List Want) (r : Request) → Remains P r (without_keys_of job named r)
  remains-without job named r =
      by_test (λ (s : Request). Remains P r s) (r.job == job) (without_keys named r) r (remains-fewer P same r _) (remains-same P same r)

  leave-filter : (test : Request → Bool) (requests : List Request) → Thinned (Remains P) requests (filter test requests)
  leave-filter test requests = thin-filter (Remains P) (remains-same P same) test requests

  leave-where : (requests : List Request) (test : Request → Bool) → Thinned (Remains P) requests (dequeue_where requests test).requests
  leave-where requests test =
      by_test (λ (o : Outcome). Thinned (Remains P) requests o.requests) (list_any test requests)
      (outcome (filter (λ r. not (test r)) requests) Done) (outcome requests (Refused NotPresent))
      (leave-filter (λ r. not (test r)) requests) (stay-same requests)

  -- a wait that is given up
  thin-chosen : (test : List Request → Request → Bool) (e rs : List Request) → Thinned (Remains P) rs (chosen_behind test e rs)
  thin-chosen test e [] = none
  thin-chosen test e (r ∷ rs) =
      by_test (λ l. Thinned (Remains P) (r ∷ rs) l) (test e r) (r ∷ chosen_behind test (e ++ r ∷ []) rs) (chosen_behind test (e ++ r ∷ []) rs)
      (stays (remains-same P same r) (thin-chosen test (e ++ r ∷ []) rs)) (leaves (thin-chosen test (e ++ r ∷ []) rs))

  -- a job that is told
  thin-notified : (test : List Request → Request → Bool) (e rs : List Request) → Thinned (Remains P) rs (notified_behind test e rs)
  thin-notified test e [] = none
  thin-notified test e (r ∷ rs) =
      by_test (λ l. Thinned (Remains P) (r ∷ rs) l) (test e r) (as_notified r ∷ rs) (r ∷ notified_behind test (e ++ r ∷ []) rs)
      (stays (remains-notified P same r) (stay-same rs))
      (stays (remains-same P same r) (thin-notified test (e ++ r ∷ []) rs))

module _ (P : Want → Want → Type 0) (same : (w : Want) → P w w) (after : (u v w : Want) → P u v → P v w → P u w) where
  leave-named : (requests : List Request) (job : ℕ) (named : List Want) → Thinned (Remains P) requests (dequeue_named requests job named).requests
  leave-named requests job named =
      thin-unless P same requests _ (outcome (without_named requests job named) Done)
      (thin-then (Remains P) (Remains P) (Remains P) (remains-then P P P after)
      (thin-map (Remains P) (without_keys_of job named) (remains-without P same job named) requests)
      (thin-filter (Remains P) (remains-same P same) has_wants (map (without_keys_of job named) requests)))

-- a change
changed-same : (changes : List Want) (w : Want) → IsSameButSharing w (changed_want changes w)
changed-same [] w = refl
changed-same (c ∷ later) w =
    by_test (λ (v : Want). IsSameButSharing w v) (same_key w.key c.key)
    (record w { shared = c.shared; group = changed_group c.shared w }) (changed_want later w)
    refl (changed-same later w)

remains-changed : (job : ℕ) (changes : List Want) (r : Request) → Remains IsSameButSharing r (changed job changes r)
remains-changed job changes r =
    by_test (λ (s : Request). Remains IsSameButSharing r s) (r.job == job) (with_wants r (map (changed_want changes) r.wants.items)) r
    (record { job = refl; id = refl; kind = refl; wants = thin-map IsSameButSharing (changed_want changes) (changed-same changes) r.wants.items })
    (remains-same IsSameButSharing (λ w. refl) r)

leave-modify : (requests : List Request) (job : ℕ) (changes : List Want) → Thinned (Remains IsSameButSharing) requests (modify requests job changes).requests
leave-modify requests job changes =
    thin-unless IsSameButSharing (λ w. refl) requests _ (outcome (with_changes requests job changes) Done)
    (thin-map (Remains IsSameButSharing) (changed job changes) (remains-changed job changes) requests)

-- what is the same is so whether shared or not
pub remains-shared : (r s : Request) → Remains IsSame r s → Remains IsSameButSharing r s
remains-shared r s h =
    remains-then IsSame IsSameButSharing IsSameButSharing (λ u v w e g. shared-then u v w (same-shared u v e) g) r s s h
    (remains-same IsSameButSharing (λ w. refl) s)

pub thin-shared : {a b : List Request} → Thinned (Remains IsSame) a b → Thinned (Remains IsSameButSharing) a b
thin-shared none = none
thin-shared (stays p t) = stays (remains-shared _ _ p) (thin-shared t)
thin-shared (leaves t) = leaves (thin-shared t)

dequeues : (size : ℕ) (requests : List Request) (job : ℕ) (call : LockCall) → is_dequeue call ≡ true
    → Thinned (Remains IsSame) requests (outcome_of size requests job call).requests
dequeues size requests job (Enqueue asking wants) h = absurd (cc)
dequeues size requests job (Modify wants) h = absurd (cc)
dequeues size requests job (DequeueNamed wants) h = leave-named IsSame (λ w. refl) same-then requests job wants.items
dequeues size requests job DequeueAll h = leave-where IsSame (λ w. refl) requests (is_of_job job)
dequeues size requests job (DequeueId id) h = leave-where IsSame (λ w. refl) requests (has_id job id)

calls : (size : ℕ) (requests : List Request) (job : ℕ) (call : LockCall)
    → LeaveOrCome IsSameButSharing job requests (outcome_of size requests job call).requests
calls size requests job (Enqueue asking wants) = come-enqueue IsSameButSharing (λ w. refl) size requests job asking wants
calls size requests job (Modify wants) = inl (leave-modify requests job wants.items)
calls size requests job (DequeueNamed wants) = inl (thin-shared (dequeues size requests job (DequeueNamed wants) refl))
calls size requests job DequeueAll = inl (thin-shared (dequeues size requests job DequeueAll refl))
calls size requests job (DequeueId id) = inl (thin-shared (dequeues size requests job (DequeueId id) refl))

other-calls : (size : ℕ) (requests : List Request) (job : ℕ) (call : LockCall) → is_change call ≡ false
    → LeaveOrCome IsSame job requests (outcome_of size requests job call).requests
other-calls size requests job (Enqueue asking wants) h = come-enqueue IsSame (λ w. refl) size requests job asking wants
other-calls size requests job (Modify wants) h = absurd (cc)
other-calls size requests job (DequeueNamed wants) h = inl (dequeues size requests job (DequeueNamed wants) refl)
other-calls size requests job DequeueAll h = inl (dequeues size requests job DequeueAll refl)
other-calls size requests job (DequeueId id) h = inl (dequeues size requests job (DequeueId id) refl)

pub nobody_comes_in_front : (size : ℕ) → NobodyComesInFront size
nobody_comes_in_front size = record {
  by_calls = calls size;
  by_other_calls = other-calls size;
  by_dequeues = dequeues size;
  by_releases = λ requests job. leave-filter IsSame (λ w. refl) _ requests;
  by_withdrawals = λ requests waiters. thin-chosen IsSame (λ w. refl) (is_not_blocked_where waiters) [] requests;
  by_notifying = λ requests job. thin-notified IsSame (λ w. refl) (is_pending job) [] requests;
}
