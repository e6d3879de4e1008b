-- Who waits after a step.
use Rattle.std.proofs.Common.{◌≡◌, ◌≢◌, ◌∙◌, sym, ap, subst, ℕ, Bool, true, false, not, cond, ◌&&◌, ◌||◌, ◌==◌, List, [], ◌∷◌}
use Rattle.std.proofs.Common.{◌++◌, length, map, Option, Some, None, ◌⊎◌, inl, inr, refl, arith}
use Rattle.std.proofs.lemmas.Bool.{and_parts, and_from, both_ways, eqb-true, eq-eqb, false_from_ne_true, not_from_false, or_cases}
use Rattle.std.proofs.lemmas.Grind.{common_steps}
use Rattle.arrayvec.specs.ArrayVec.{ArrayVec}
use Rattle.lock_queue.specs.declared.call.Asking.{Asking}
use Rattle.lock_queue.specs.declared.call.LockCall.{LockCall}
use Rattle.lock_queue.specs.declared.call.LockCall.TheVariants.{Enqueue, Modify, DequeueNamed, DequeueAll, DequeueId}
use Rattle.lock_queue.specs.declared.call.LockReply.TheVariants.{Granted, Queued, Done}
use Rattle.lock_queue.specs.declared.refusal.Refusal.{Refusal}
use Rattle.lock_queue.specs.declared.request.EnqueueKind.{EnqueueKind}
use Rattle.lock_queue.specs.declared.request.EnqueueKind.TheVariants.{Blocking, AtOnce, Interrupt}
use Rattle.lock_queue.specs.declared.request.Request.{Request}
use Rattle.lock_queue.specs.declared.want.Want.{Want}
use Rattle.lock_queue.specs.Calls.{outcome_of}
use Rattle.lock_queue.specs.Enqueues.{enqueue, enqueue_refusal, arrival, not_granted, with_arrival, request_of}
use Rattle.lock_queue.specs.Jobs.{is_blocking, is_interrupt, is_blocked, is_waiting_job, released}
use Rattle.lock_queue.specs.declared.refusal.Refusal.TheVariants.{WouldLose}
use Rattle.lock_queue.specs.Changes.{modify_fault, changed, with_changes, some_lost, modify}
use Rattle.lock_queue.specs.Outcomes.{Outcome, outcome, unless_refused, refuse_if, or_else, first_refusal}
use Rattle.lock_queue.proofs.Refusing.{refuse_if-None, or_else-None}
use Rattle.lock_laws.proofs.Modifications.{changes-changed}
use Rattle.lock_queue.specs.Queue.{granted_behind, granted, some_behind}
use Rattle.lock_queue.specs.StatusWords.{has_job}
use Rattle.lock_queue.proofs.Granted.{granted_last}
use Rattle.lock_laws.proofs.CallSteps.{Step, grows, releases, step_of}
use Rattle.lock_laws.proofs.Departures.{releases-named, releases-all, releases-id}
use Rattle.lock_queue.proofs.Fitting.{granted_behind-fewer}
use Rattle.lock_queue.proofs.Lists.{Has, Has-cases, list_any-Has, list_any-found, filter-Has, map-Has, Has-right}
use Rattle.lock_laws.proofs.Positions.{some_found, some-split, nil-append, push-append}
use Rattle.lock_laws.proofs.SameButNotified.{SameButNotified, SameButNotified-back, SameButNotified-position, SameButNotified-jobs}
use Rattle.lock_laws.proofs.Steps.{Grows, stays, arrives, changes, Changes, Leaves, is_job_of, Releases-source, Releases-jobs}

-- what a waiting job's request is
pub record Waits (rs : List Request) (n : ℕ) : Type 0 where
  pub request : Request
  pub before : List Request
  pub after : List Request
  pub is : rs ≡ before ++ request ∷ after
  pub by : request.job ≡ n
  pub blocking : is_blocking request.kind ≡ true
  pub late : granted_behind before request ≡ false

not-true : (b : Bool) → not b ≡ true → b ≡ false
not-true true h = cc
not-true false h = refl

pub waits_found : (rs : List Request) (n : ℕ) → is_waiting_job rs n ≡ true → Waits rs n
waits_found rs n h =
    let f = some_found (is_blocked n) [] rs h in
    let p = and_parts (f.request.job == n && is_blocking f.request.kind) (not (granted_behind f.split.before f.request)) f.passes in
    let q = and_parts (f.request.job == n) (is_blocking f.request.kind) p.0 in
    record {
      request = f.request;
      before = f.split.before;
      after = f.split.after;
      is = f.split.is;
      by = eqb-true f.request.job n q.0;
      blocking = q.1;
      late = not-true _ p.1;
    }

pub found_waits : (rs : List Request) (n : ℕ) → Waits rs n → is_waiting_job rs n ≡ true
found_waits rs n w =
    let t : is_blocked n ([] ++ w.before) w.request ≡ true =
    and_from _ _ (and_from _ _ (eq-eqb w.request.job n w.by) w.blocking) (not_from_false _ w.late) in
    subst (λ l. is_waiting_job l n ≡ true) (sym w.is) (some-split (is_blocked n) [] w.before w.after w.request t)

-- a dequeue makes no job wait
pub waits-releases : (whose : ℕ → Type 0) (before after : List Request) (n : ℕ) → Leaves whose before after → is_waiting_job after n ≡ true
    → is_waiting_job before n ≡ true
waits-releases whose before after n s h =
    let w = waits_found after n h in
    let o = Releases-source whose s w.before w.after w.request w.is in
    found_waits before n (record {
      request = o.request;
      before = o.earlier;
      after = o.later;
      is = o.is;
      by = sym o.by ∙ w.by;
      blocking = subst (λ k. is_blocking k ≡ true) o.kind w.blocking;
      late =
          false_from_ne_true _
          (λ t. both_ways (granted_behind w.before w.request) w.late
          (granted_behind-fewer w.before o.earlier w.request o.request o.fewer o.wants t));
    })

-- nor does notifying
pub waits-notified : (before after : List Request) (n : ℕ) → SameButNotified before after → is_waiting_job after n ≡ true
    → is_waiting_job before n ≡ true
waits-notified before after n s h =
    let w = waits_found after n h in
    let p = SameButNotified-position (SameButNotified-back s) w.before w.after w.request w.is in
    found_waits before n (record {
      request = p.request;
      before = p.earlier;
      after = p.later;
      is = p.is;
      by = p.job ∙ w.by;
      blocking = subst (λ k. is_blocking k ≡ true) (sym p.kind) w.blocking;
      late = p.granted ∙ w.late;
    })

-- the positions of a changed list
record MapSplit {X Y : Type 0} (f : X → Y) (xs : List X) (a : List Y) (y : Y) (b : List Y) : Type 0 where
  before : List X
  item : X
  after : List X
  is : xs ≡ before ++ item ∷ after
  before_is : map f before ≡ a
  item_is : f item ≡ y

map-split : {X Y : Type 0} (f : X → Y) (xs : List X) (a : List Y) (y : Y) (b : List Y) → map f xs ≡ a ++ y ∷ b
    → MapSplit f xs a y b
map-split f [] [] y b is = absurd (cc)
map-split f [] (z ∷ a) y b is = absurd (cc)
map-split f (x ∷ xs) [] y b is = record {
  before = [];
  item = x;
  after = xs;
  is = refl;
  before_is = refl;
  item_is = cc;
}
map-split f (x ∷ xs) (z ∷ a) y b is =
    let same : f x ≡ z = cc in
    let rest : map f xs ≡ a ++ y ∷ b = cc in
    let s = map-split f xs a y b rest in
    record {
      before = x ∷ s.before;
      item = s.item;
      after = s.after;
      is = ap (λ l. x ∷ l) s.is;
      before_is = ap (λ l. f x ∷ l) s.before_is ∙ ap (λ u. u ∷ a) same;
      item_is = s.item_is;
    }

-- nor a change, which takes no grant away
pub waits-changes : (before : List Request) (f : Request → Request) (n : ℕ) → Changes before f → is_waiting_job (map f before) n ≡ true
    → is_waiting_job before n ≡ true
waits-changes before f n c h =
    let w = waits_found (map f before) n h in
    let s = map-split f before w.before w.request w.after w.is in
    found_waits before n (record {
      request = s.item;
      before = s.before;
      after = s.after;
      is = s.is;
      by = sym (c.job s.item) ∙ ap (λ (u : Request). u.job) s.item_is ∙ w.by;
      blocking = subst (λ k. is_blocking k ≡ true) (sym (ap (λ (u : Request). u.kind) s.item_is) ∙ c.kind s.item) w.blocking;
      late = false_from_ne_true _ (λ t.
          let now : granted_behind w.before w.request ≡ true =
          subst (λ l. granted_behind l w.request ≡ true) s.before_is
          (subst (λ u. granted_behind (map f s.before) u ≡ true) s.item_is (c.kept s.before s.after s.item s.is t)) in
          both_ways (granted_behind w.before w.request) w.late now);
    })

-- who waits behind one more request
pub waiting-append : (e rs : List Request) (r : Request) (n : ℕ)
    → some_behind (is_blocked n) e (rs ++ r ∷ []) ≡ some_behind (is_blocked n) e rs || is_blocked n (e ++ rs) r
waiting-append e [] r n = rw (nil-append e) (grind (arith, common_steps))
waiting-append e (x ∷ rs) r n = rw (waiting-append (e ++ x ∷ []) rs r n, push-append e x rs) (grind (arith, common_steps))

-- a request that is granted, or does not block, makes nobody wait
waiting-arrival : (requests : List Request) (r : Request) (n : ℕ) → is_blocking r.kind ≡ false → is_waiting_job (requests ++ r ∷ []) n ≡ true
    → is_waiting_job requests n ≡ true
waiting-arrival requests r n free h =
    let e : is_waiting_job requests n || is_blocked n requests r ≡ true = sym (waiting-append [] requests r n) ∙ h in
    elim (or_cases _ _ e) [
      | inl old ↦ old
      | inr new ↦ absurd (both_ways (is_blocking r.kind) free (and_parts _ _ (and_parts _ _ new).0).1)
    ]

waiting-granted : (requests : List Request) (r : Request) (n : ℕ) → granted_behind requests r ≡ true → is_waiting_job (requests ++ r ∷ []) n ≡ true
    → is_waiting_job requests n ≡ true
waiting-granted requests r n t h =
    let e : is_waiting_job requests n || is_blocked n requests r ≡ true = sym (waiting-append [] requests r n) ∙ h in
    elim (or_cases _ _ e) [
      | inl old ↦ old
      | inr new ↦ absurd (both_ways (granted_behind requests r) (not-true _ (and_parts (r.job == n && is_blocking r.kind) _ new).1) t)
    ]

waiting-queued : (requests : List Request) (r : Request) (n : ℕ) → is_waiting_job (requests ++ r ∷ []) n ≡ true
    → (is_waiting_job requests n ≡ true) ⊎ (n ≡ r.job)
waiting-queued requests r n h =
    let e : is_waiting_job requests n || is_blocked n requests r ≡ true = sym (waiting-append [] requests r n) ∙ h in
    elim (or_cases _ _ e) [
      | inl old ↦ inl old
      | inr new ↦ inr (sym (eqb-true r.job n (and_parts _ _ (and_parts _ _ new).0).0))
    ]

-- that a job waits by this outcome alone
abbrev pub Queues : List Request → ℕ → ℕ → Outcome → Type 0
Queues requests caller n o =
    is_waiting_job o.requests n ≡ true → (is_waiting_job requests n ≡ true) ⊎ ((n ≡ caller) × (o.reply ≡ Queued))

module _ (size : ℕ) (requests : List Request) (caller n : ℕ) (asking : Asking) (wants : ArrayVec Want) where
  queues-not_granted : (k : EnqueueKind) → asking.kind ≡ k
      → Queues requests caller n (not_granted requests (with_arrival requests caller asking false wants) k)
  queues-not_granted Blocking is h =
      elim (waiting-queued requests (request_of caller asking false wants) n h) [ inl old ↦ inl old | inr mine ↦ inr (mine, refl) ]
  queues-not_granted AtOnce is h = inl h
  queues-not_granted Interrupt is h = inl (waiting-arrival requests (request_of caller asking false wants) n (ap is_blocking is) h)

  queues-arrival : Queues requests caller n (arrival requests caller asking wants)
  queues-arrival = go (granted (with_arrival requests caller asking false wants) (length requests)) refl
    where
      go : (b : Bool) → granted (with_arrival requests caller asking false wants) (length requests) ≡ b
          → Queues requests caller n
          (cond b (outcome (with_arrival requests caller asking (is_interrupt asking.kind) wants) Granted)
          (not_granted requests (with_arrival requests caller asking false wants) asking.kind))
      go true e h =
          let t : granted_behind requests (request_of caller asking (is_interrupt asking.kind) wants) ≡ true =
          sym (granted_last requests (request_of caller asking false wants)) ∙ e in
          inl (waiting-granted requests (request_of caller asking (is_interrupt asking.kind) wants) n t h)
      go false e h = queues-not_granted asking.kind refl h

  queues-enqueue : Queues requests caller n (enqueue size requests caller asking wants)
  queues-enqueue = go (enqueue_refusal size requests caller asking wants.items)
    where
      go : (o : Option Refusal) → Queues requests caller n (unless_refused requests o (arrival requests caller asking wants))
      go (Some f) h = inl h
      go None h = queues-arrival h

-- nor does a change
pub waits-modify : (requests : List Request) (caller n : ℕ) (cs : List Want) → is_waiting_job (modify requests caller cs).requests n ≡ true
    → is_waiting_job requests n ≡ true
waits-modify requests caller n cs = go _ refl
  where
    go : (o : Option Refusal)
        → or_else (first_refusal (modify_fault requests caller) [] cs) (refuse_if (some_lost requests (with_changes requests caller cs)) WouldLose) ≡ o
        → is_waiting_job (unless_refused requests o (outcome (with_changes requests caller cs) Done)).requests n ≡ true
        → is_waiting_job requests n ≡ true
    go (Some f) e h = h
    go None e h = waits-changes requests (changed caller cs) n (changes-changed requests caller cs (refuse_if-None _ _ (or_else-None _ _ e).1)) h

-- what a call does for those who wait
pub waits-call : (size : ℕ) (requests : List Request) (caller n : ℕ) (call : LockCall) → Queues requests caller n (outcome_of size requests caller call)
waits-call size requests caller n (Enqueue asking wants) h = queues-enqueue size requests caller n asking wants h
waits-call size requests caller n (Modify wants) h = inl (waits-modify requests caller n wants.items h)
waits-call size requests caller n (DequeueNamed wants) h = inl (waits-releases (is_job_of caller) requests _ n (releases-named requests caller wants.items) h)
waits-call size requests caller n DequeueAll h = inl (waits-releases (is_job_of caller) requests _ n (releases-all requests caller) h)
waits-call size requests caller n (DequeueId id) h = inl (waits-releases (is_job_of caller) requests _ n (releases-id requests caller id) h)

-- who has requests
jobs-from : (before after : List Request) (n : ℕ)
    → ((q : Request) → Has after q → (r : Request) × Has before r × (q.job ≡ r.job))
    → has_job after n ≡ true → has_job before n ≡ true
jobs-from before after n from h =
    let f = list_any-found (λ (r : Request). r.job == n) after h in
    let o = from f.0 f.1 in
    list_any-Has (λ (r : Request). r.job == n) before o.0 (eq-eqb o.0.job n (sym o.2 ∙ eqb-true f.0.job n f.2)) o.1

pub jobs-releases : (whose : ℕ → Type 0) (before after : List Request) (n : ℕ) → Leaves whose before after → has_job after n ≡ true → has_job before n ≡ true
jobs-releases whose before after n s h = jobs-from before after n (Releases-jobs whose s) h

pub jobs-notified : (before after : List Request) (n : ℕ) → SameButNotified before after → has_job after n ≡ true → has_job before n ≡ true
jobs-notified before after n s h = jobs-from before after n (SameButNotified-jobs s) h

jobs-grows : {size : ℕ} (caller : ℕ) (before after : List Request) (n : ℕ) → Grows size caller before after → has_job after n ≡ true
    → (has_job before n ≡ true) ⊎ (n ≡ caller)
jobs-grows caller before after n (stays e) h = inl (subst (λ l. has_job l n ≡ true) e h)
jobs-grows caller before after n (arrives r e a) h =
    let f = list_any-found (λ (q : Request). q.job == n) after h in
    let mine : f.0.job ≡ n = eqb-true f.0.job n f.2 in
    elim (Has-cases before (r ∷ []) f.0 (subst (λ l. Has l f.0) e f.1)) [
      | inl old ↦ inl (list_any-Has (λ (q : Request). q.job == n) before f.0 f.2 old)
      | inr last ↦ elim last [
        | inl same ↦ inr (sym mine ∙ ap (λ (u : Request). u.job) (sym same) ∙ a.by)
        | inr gone ↦ absurd gone
      ]
    ]
jobs-grows caller before after n (changes f e c) h =
    inl
    (jobs-from before (map f before) n
    (λ q k. let from = map-Has f before q k in (from.0, from.1, ap (λ (u : Request). u.job) (sym from.2) ∙ c.job from.0))
    (subst (λ l. has_job l n ≡ true) e h))

jobs-step : {size : ℕ} (requests after : List Request) (caller n : ℕ) (call : LockCall) → Step size caller call requests after → has_job after n ≡ true
    → (has_job requests n ≡ true) ⊎ (n ≡ caller)
jobs-step requests after caller n call (grows g) h = jobs-grows caller requests after n g h
jobs-step requests after caller n call (releases d s) h = inl (jobs-releases (is_job_of caller) requests after n s h)

pub jobs-call : (size : ℕ) (requests : List Request) (caller n : ℕ) (call : LockCall) → has_job (outcome_of size requests caller call).requests n ≡ true
    → (has_job requests n ≡ true) ⊎ (n ≡ caller)
jobs-call size requests caller n call h = jobs-step requests _ caller n call (step_of size requests caller call) h

-- one who is gone has no requests
pub jobs-released : (requests : List Request) (gone n : ℕ) → has_job (released requests gone) n ≡ true → n ≢ gone
jobs-released requests gone n h mine =
    let f = list_any-found (λ (q : Request). q.job == n) (released requests gone) h in
    let k = filter-Has (λ (q : Request). not (q.job == gone)) requests f.0 f.1 in
    both_ways (f.0.job == gone) (not-true _ k.0) (eq-eqb f.0.job gone (eqb-true f.0.job n f.2 ∙ mine))

pub has-waiting : (requests : List Request) (n : ℕ) → is_waiting_job requests n ≡ true → has_job requests n ≡ true
has-waiting requests n h =
    let w = waits_found requests n h in
    list_any-Has (λ (q : Request). q.job == n) requests w.request (eq-eqb w.request.job n w.by)
    (subst (λ l. Has l w.request) (sym w.is) (Has-right w.before (w.request ∷ w.after) w.request (inl refl)))
