-- Who owns a key goes on owning it, but for its own dequeues.
use Rattle.std.proofs.Common.{◌≡◌, ◌≢◌, ◌∙◌, sym, ap, subst, ℕ, Bool, true, false, not, ◌&&◌, ◌==◌, List, [], ◌∷◌, ◌++◌, map, inl, inr, refl, append_assoc}
use Rattle.std.proofs.lemmas.Bool.{and_parts, and_from, both_ways, eqb-true, eq-eqb, cases_eq, not_from_false, and_right}
use Rattle.std.proofs.lemmas.List.{map-append}
use Rattle.lock_queue.specs.declared.call.LockCall.{LockCall}
use Rattle.lock_queue.specs.declared.key.Key.{Key}
use Rattle.lock_queue.specs.declared.request.Request.{Request}
use Rattle.lock_queue.specs.Jobs.{is_blocking, is_not_blocked_where, is_pending, released, withdrawn_where, job_notified}
use Rattle.lock_queue.specs.Queue.{all_wants, granted_behind, names, is_owner, owners, chosen_behind}
use Rattle.lock_laws.specs.Owning.{owns, is_dequeue, KeepsOwners}
use Rattle.lock_laws.proofs.CallSteps.{Step, grows, releases, step_of}
use Rattle.lock_laws.proofs.Departures.{releases-released}
use Rattle.lock_queue.proofs.Fitting.{granted_behind-fewer, names-found}
use Rattle.lock_queue.proofs.Lists.{Has, list_any-Has, list_any-found, Sub, Sub-refl, Sub-flat_map}
use Rattle.lock_queue.proofs.WellKept.{Sub-chosen}
use Rattle.lock_laws.proofs.Positions.{Split, chosen-Has, Has-chosen, chosen-position}
use Rattle.lock_laws.proofs.SameButNotified.{SameButNotified-notified, SameButNotified-position}
use Rattle.lock_laws.proofs.Steps.{Grows, stays, arrives, changes, Releases, is_job_of, Releases-target}

-- a granted request with a want of the key, and its position
record Owning (requests : List Request) (job : ℕ) (key : Key) : Type 0 where
  request : Request
  split : Split requests request
  by : request.job ≡ job
  named : names request.wants.items key ≡ true
  granted : granted_behind split.before request ≡ true

-- an owner has such a request, and who has one is an owner
owning : (requests : List Request) (job : ℕ) (key : Key) → owns requests job key ≡ true → Owning requests job key
owning requests job key h =
    let r = list_any-found (λ (q : Request). q.job == job) (owners requests key) h in
    let c = chosen-Has (is_owner key) [] requests r.0 r.1 in
    let parts = and_parts (names r.0.wants.items key) (granted_behind c.split.before r.0) c.passes in
    record { request = r.0; split = c.split; by = eqb-true r.0.job job r.2; named = parts.0; granted = parts.1 }

owns-at : (requests a b : List Request) (r : Request) (job : ℕ) (key : Key) → requests ≡ a ++ r ∷ b → r.job ≡ job
    → names r.wants.items key ≡ true
    → granted_behind a r ≡ true → owns requests job key ≡ true
owns-at requests a b r job key is by named granted =
    let there : Has (owners (a ++ r ∷ b) key) r = Has-chosen (is_owner key) [] a b r (and_from _ _ named granted) in
    subst (λ l. owns l job key ≡ true) (sym is)
    (list_any-Has (λ (q : Request). q.job == job) (owners (a ++ r ∷ b) key) r (eq-eqb r.job job by) there)

-- a call that is no dequeue takes nothing away
owns-grows : {size : ℕ} (caller : ℕ) (before after : List Request) (job : ℕ) (key : Key) → Grows size caller before after
    → owns before job key ≡ true → owns after job key ≡ true
owns-grows caller before after job key (stays e) h = subst (λ l. owns l job key ≡ true) (sym e) h
owns-grows caller before after job key (arrives r e a) h =
    let o : Owning before job key = owning before job key h in
    owns-at after o.split.before (o.split.after ++ r ∷ []) o.request job key
    (e ∙ ap (λ l. l ++ r ∷ []) o.split.is ∙ append_assoc o.split.before (o.request ∷ o.split.after) (r ∷ [])) o.by o.named o.granted
owns-grows caller before after job key (changes f e c) h =
    let o : Owning before job key = owning before job key h in
    owns-at after (map f o.split.before) (map f o.split.after) (f o.request) job key
    (e ∙ ap (map f) o.split.is ∙ map-append f o.split.before (o.request ∷ o.split.after)) (c.job o.request ∙ o.by) (c.named o.request key o.named)
    (c.kept o.split.before o.split.after o.request o.split.is o.granted)

-- a job that makes no dequeue keeps what it owns through one
owns-releases : (caller : ℕ) (before after : List Request) (job : ℕ) (key : Key) → Releases caller before after
    → (caller ≡ job → ⊥)
    → owns before job key ≡ true → owns after job key ≡ true
owns-releases caller before after job key s other h =
    let o : Owning before job key = owning before job key h in
    let some : o.request.wants.items ≢ [] =
    λ none. let w = names-found o.request.wants.items key o.named in let gone : Has [] w.0 = subst (λ l. Has l w.0) none w.1 in absurd gone in
    let t = Releases-target (is_job_of caller) s o.split.before o.split.after o.request o.split.is (λ e. other (sym e ∙ o.by)) some in
    owns-at after t.earlier t.later o.request job key t.is o.by o.named
    (granted_behind-fewer t.earlier o.split.before o.request o.request t.fewer (Sub-refl o.request.wants.items) o.granted)

-- so only a dequeue of its own takes a key from an owner
keeps-step : {size : ℕ} (requests after : List Request) (caller : ℕ) (call : LockCall) → Step size caller call requests after
    → (job : ℕ) (key : Key)
    → owns requests job key ≡ true → owns after job key ≡ false → (is_dequeue call ≡ true) × (caller ≡ job)
keeps-step requests after caller call (grows g) job key h lost =
    absurd (both_ways (owns after job key) lost (owns-grows caller requests after job key g h))
keeps-step requests after caller call (releases d s) job key h lost = (
  d,
  elim (cases_eq caller job) [
    | inl e ↦ e
    | inr other ↦ absurd (both_ways (owns after job key) lost (owns-releases caller requests after job key s other h))
  ],
)

pub keeps_owners : (size : ℕ) (requests : List Request) (caller : ℕ) (call : LockCall) → KeepsOwners size requests caller call
keeps_owners size requests caller call = keeps-step requests _ caller call (step_of size requests caller call)

-- a job that is gone owns nothing, and others keep what they own
pub owns-released : (requests : List Request) (gone job : ℕ) (key : Key) → owns requests job key ≡ true
    → owns (released requests gone) job key ≡ false
    → gone ≡ job
owns-released requests gone job key h lost =
    elim (cases_eq gone job) [
      | inl e ↦ e
      | inr other ↦ absurd (both_ways (owns (released requests gone) job key) lost
          (owns-releases gone requests (released requests gone) job key (releases-released requests gone) other h))
    ]

-- a wait that is given up is of a request that is not granted
pub owns-withdrawn : (requests : List Request) (waiters : ℕ → Bool) (job : ℕ) (key : Key) → owns requests job key ≡ true
    → owns (withdrawn_where requests waiters) job key ≡ true
owns-withdrawn requests waiters job key h =
    let o : Owning requests job key = owning requests job key h in
    let a : List Request = o.split.before in
    let stays : is_not_blocked_where waiters a o.request ≡ true =
    ap (λ b. not ((waiters o.request.job && is_blocking o.request.kind) && not b)) o.granted ∙ not_from_false _ (and_right _ false refl) in
    let front : Sub (all_wants (chosen_behind (is_not_blocked_where waiters) [] a)) (all_wants a) =
    Sub-flat_map (λ (q : Request). q.wants.items) (Sub-chosen (is_not_blocked_where waiters) [] a) in
    owns-at (withdrawn_where requests waiters) (chosen_behind (is_not_blocked_where waiters) [] a)
    (chosen_behind (is_not_blocked_where waiters) (a ++ o.request ∷ []) o.split.after) o.request job key
    (ap (chosen_behind (is_not_blocked_where waiters) []) o.split.is
    ∙ chosen-position (is_not_blocked_where waiters) [] a o.split.after o.request stays) o.by o.named
    (granted_behind-fewer (chosen_behind (is_not_blocked_where waiters) [] a) a o.request o.request front (Sub-refl o.request.wants.items) o.granted)

-- notifying a job changes no grant
pub owns-notified : (requests : List Request) (notified job : ℕ) (key : Key) → owns requests job key ≡ true
    → owns (job_notified requests notified) job key ≡ true
owns-notified requests notified job key h =
    let o : Owning requests job key = owning requests job key h in
    let p = SameButNotified-position (SameButNotified-notified (is_pending notified) [] requests) o.split.before o.split.after o.request o.split.is in
    owns-at (job_notified requests notified) p.earlier p.later p.request job key p.is (p.job ∙ o.by) (ap (λ ws. names ws key) p.wants ∙ o.named)
    (p.granted ∙ o.granted)
