-- What a call leaves of each request, and that a request which is asked for grants no other.
use Rattle.std.proofs.Common.{◌≡◌, ◌∙◌, sym, ap, append-nil, ℕ, Bool, true, false, not, ◌&&◌, ◌==◌, cond, if◌then◌else◌}
use Rattle.std.proofs.Common.{List, [], ◌∷◌, ◌++◌, map, filter, filter_map, Option, Some, None, refl}
use Rattle.std.specs.List.{cons_option}
use Rattle.std.proofs.lemmas.Bool.{and_left, and_right}
use Rattle.arrayvec.specs.ArrayVec.{ArrayVec}
use Rattle.lock_queue.specs.declared.call.Asking.{Asking}
use Rattle.lock_queue.specs.declared.call.LockCall.{LockCall}
use Rattle.lock_queue.specs.declared.call.LockCall.TheVariants.{Enqueue, Modify, DequeueNamed, DequeueAll, DequeueId}
use Rattle.lock_queue.specs.declared.call.LockReply.{LockReply}
use Rattle.lock_queue.specs.declared.call.LockReply.TheVariants.{Granted, Queued, Done, Refused}
use Rattle.lock_queue.specs.declared.refusal.Refusal.{Refusal}
use Rattle.lock_queue.specs.declared.refusal.Refusal.TheVariants.{NotPresent}
use Rattle.lock_queue.specs.declared.request.EnqueueKind.{EnqueueKind}
use Rattle.lock_queue.specs.declared.request.EnqueueKind.TheVariants.{Blocking, AtOnce, Interrupt}
use Rattle.lock_queue.specs.declared.request.Request.{Request}
use Rattle.lock_queue.specs.declared.want.Want.{Want}
use Rattle.lock_queue.specs.Calls.{outcome_of}
use Rattle.lock_queue.specs.Changes.{changed, with_changes}
use Rattle.lock_queue.specs.Dequeues.{has_wants, without_keys, without_keys_of, without_named, is_of_job, has_id}
use Rattle.lock_queue.specs.Grants.{staying_if, left_of, is_notified_of, grant_of, is_woken, unless_refused_grants, woken_by}
use Rattle.lock_queue.specs.Enqueues.{arrival, not_granted, enqueue_refusal}
use Rattle.lock_queue.specs.Jobs.{released}
use Rattle.lock_queue.specs.Outcomes.{Outcome, outcome, unless_refused}
use Rattle.lock_queue.specs.Queue.{granted_behind, chosen_behind}

-- ---- one request

-- what is left keeps job and id
abbrev pub KeepsLabels : (Request → Option Request) → Type 0
KeepsLabels left = (r s : Request) → left r ≡ Some s → grant_of s ≡ grant_of r

if-kept : (b : Bool) (r s : Request) → staying_if b r ≡ Some s → grant_of s ≡ grant_of r
if-kept true r s e = let same : r ≡ s = cc in ap grant_of (sym same)
if-kept false r s e = absurd (cc)

if-same : (b : Bool) (r s : Request) → grant_of s ≡ grant_of r → grant_of (if b then s else r) ≡ grant_of r
if-same true r s e = e
if-same false r s e = refl

pub left-labels : (job : ℕ) (call : LockCall) → KeepsLabels (left_of job call)
left-labels job (Enqueue asking wants) r s e = let same : r ≡ s = cc in ap grant_of (sym same)
left-labels job (Modify changes) r s e =
    let same : changed job changes.items r ≡ s = cc in
    ap grant_of (sym same) ∙ if-same (r.job == job) r _ refl
left-labels job (DequeueNamed named) r s e =
    if-kept (has_wants (without_keys_of job named.items r)) (without_keys_of job named.items r) s e
    ∙ if-same (r.job == job) r (without_keys named.items r) refl
left-labels job DequeueAll r s e = if-kept (not (is_of_job job r)) r s e
left-labels job (DequeueId id) r s e = if-kept (not (has_id job id r)) r s e

module _ (left : Request → Option Request) where
  left-append : (e rs : List Request) → filter_map left (e ++ rs) ≡ filter_map left e ++ filter_map left rs
  left-append [] rs = refl
  left-append (x ∷ e) rs = go (left x) (left-append e rs)
    where
      go : (o : Option Request) → filter_map left (e ++ rs) ≡ filter_map left e ++ filter_map left rs
          → cons_option o (filter_map left (e ++ rs)) ≡ cons_option o (filter_map left e) ++ filter_map left rs
      go None h = h
      go (Some y) h = ap (λ l. y ∷ l) h

  -- one more request, by what is left of it
  pub left-gone : (e : List Request) (r : Request) → left r ≡ None → filter_map left (e ++ r ∷ []) ≡ filter_map left e
  left-gone e r is =
      left-append e (r ∷ []) ∙ ap (λ o. filter_map left e ++ cons_option o []) is ∙ append-nil (filter_map left e)

  pub left-stays : (e : List Request) (r s : Request) → left r ≡ Some s
      → filter_map left (e ++ r ∷ []) ≡ filter_map left e ++ s ∷ []
  left-stays e r s is = left-append e (r ∷ []) ∙ ap (λ o. filter_map left e ++ cons_option o []) is

-- ---- the list

map-left : (f : Request → Request) (rs : List Request) → map f rs ≡ filter_map (λ r. Some (f r)) rs
map-left f [] = refl
map-left f (r ∷ rs) = ap (λ l. f r ∷ l) (map-left f rs)

filter-left : (p : Request → Bool) (rs : List Request) → filter p rs ≡ filter_map (λ r. staying_if (p r) r) rs
filter-left p [] = refl
filter-left p (r ∷ rs) = go (p r) (filter-left p rs)
  where
    go : (b : Bool) → filter p rs ≡ filter_map (λ r. staying_if (p r) r) rs
        → cond b (r ∷ filter p rs) (filter p rs) ≡ cons_option (staying_if b r) (filter_map (λ r. staying_if (p r) r) rs)
    go true h = ap (λ l. r ∷ l) h
    go false h = h

filter-map-left : (p : Request → Bool) (f : Request → Request) (rs : List Request)
    → filter p (map f rs) ≡ filter_map (λ r. staying_if (p (f r)) (f r)) rs
filter-map-left p f [] = refl
filter-map-left p f (r ∷ rs) = go (p (f r)) (filter-map-left p f rs)
  where
    go : (b : Bool) → filter p (map f rs) ≡ filter_map (λ r. staying_if (p (f r)) (f r)) rs
        → cond b (f r ∷ filter p (map f rs)) (filter p (map f rs))
        ≡ cons_option (staying_if b (f r)) (filter_map (λ r. staying_if (p (f r)) (f r)) rs)
    go true h = ap (λ l. f r ∷ l) h
    go false h = h

pub released-left : (requests : List Request) (job : ℕ) → released requests job ≡ filter_map (left_of job DequeueAll) requests
released-left requests job = filter-left (λ r. not (is_of_job job r)) requests

-- where a call is done the list after it is what is left
done-left : (l : List Request) (requests : List Request) (refusal : Option Refusal)
    → (unless_refused requests refusal (outcome l Done)).reply ≡ Done
    → (unless_refused requests refusal (outcome l Done)).requests ≡ l
done-left l requests None e = refl
done-left l requests (Some refusal) e = absurd (cc)

where-left : (requests : List Request) (test : Request → Bool) (b : Bool)
    → (cond b (outcome (filter (λ r. not (test r)) requests) Done) (outcome requests (Refused NotPresent))).reply ≡ Done
    → (cond b (outcome (filter (λ r. not (test r)) requests) Done) (outcome requests (Refused NotPresent))).requests
    ≡ filter (λ r. not (test r)) requests
where-left requests test true e = refl
where-left requests test false e = absurd (cc)

not-stayed : (requests : List Request) (o : Outcome) (l : List Request) (refusal : Option Refusal) → (o.reply ≡ Done → ⊥)
    → (unless_refused requests refusal o).reply ≡ Done → (unless_refused requests refusal o).requests ≡ l
not-stayed requests o l None h e = absurd (h e)
not-stayed requests o l (Some refusal) h e = absurd (cc)

arrival-not_done : (requests : List Request) (x y : Request) (kind : EnqueueKind) (b : Bool)
    → (cond b (outcome (requests ++ x ∷ []) Granted) (not_granted requests (requests ++ y ∷ []) kind)).reply ≡ Done → ⊥
arrival-not_done requests x y kind true e = absurd (cc)
arrival-not_done requests x y Blocking false e = absurd (cc)
arrival-not_done requests x y AtOnce false e = absurd (cc)
arrival-not_done requests x y Interrupt false e = absurd (cc)

pub call-left : (size : ℕ) (requests : List Request) (job : ℕ) (call : LockCall) → (outcome_of size requests job call).reply ≡ Done
    → (outcome_of size requests job call).requests ≡ filter_map (left_of job call) requests
call-left size requests job (Enqueue asking wants) e =
    not-stayed requests (arrival requests job asking wants) _ (enqueue_refusal size requests job asking wants.items)
    (arrival-not_done requests _ _ asking.kind _) e
call-left size requests job (Modify changes) e =
    done-left (with_changes requests job changes.items) requests _ e ∙ map-left (changed job changes.items) requests
call-left size requests job (DequeueNamed named) e =
    done-left (without_named requests job named.items) requests _ e
    ∙ filter-map-left has_wants (without_keys_of job named.items) requests
call-left size requests job DequeueAll e = where-left requests (is_of_job job) _ e ∙ filter-left (λ r. not (is_of_job job r)) requests
call-left size requests job (DequeueId id) e = where-left requests (has_id job id) _ e ∙ filter-left (λ r. not (has_id job id r)) requests

-- ---- what is woken

grants-none : (reply : LockReply) → unless_refused_grants reply [] ≡ []
grants-none Granted = refl
grants-none Queued = refl
grants-none Done = refl
grants-none (Refused refusal) = refl

all-left : (rs : List Request) → filter_map (λ r. Some r) rs ≡ rs
all-left [] = refl
all-left (r ∷ rs) = ap (λ l. r ∷ l) (all-left rs)

never-both : (a g : Bool) → ((a && not g) && g) ≡ false
never-both a true = and_left (a && false) true (and_right a false refl)
never-both a false = and_right (a && true) false refl

-- where all stay as they are nobody is woken
none-woken : (e rs : List Request) → chosen_behind (is_woken (λ r. Some r)) e rs ≡ []
none-woken e [] = refl
none-woken e (r ∷ rs) =
    let here : is_woken (λ r. Some r) e r ≡ false =
    ap (λ l. (is_notified_of r.kind && not (granted_behind e r)) && granted_behind l r) (all-left e) ∙ never-both (is_notified_of r.kind) (granted_behind e r) in
    ap (λ b. cond b (r ∷ chosen_behind (is_woken (λ r. Some r)) (e ++ r ∷ []) rs) (chosen_behind (is_woken (λ r. Some r)) (e ++ r ∷ []) rs)) here
    ∙ none-woken (e ++ r ∷ []) rs

-- a request that is asked for wakes nobody
pub woken-enqueue : (size : ℕ) (requests : List Request) (job : ℕ) (asking : Asking) (wants : ArrayVec Want)
    → woken_by size requests job (Enqueue asking wants) ≡ []
woken-enqueue size requests job asking wants =
    let reply : LockReply = (outcome_of size requests job (Enqueue asking wants)).reply in
    ap (λ l. unless_refused_grants reply (map grant_of l)) (none-woken [] requests) ∙ grants-none reply
