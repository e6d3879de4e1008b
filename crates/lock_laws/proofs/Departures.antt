-- What a dequeue leaves.
use Rattle.std.proofs.Common.{◌≡◌, ◌∙◌, sym, ap, ℕ, Bool, true, false, not, ◌&&◌, ◌==◌, cond, List, [], ◌∷◌, ◌++◌}
use Rattle.std.proofs.Common.{length, filter, Option, Some, None, ◌⊎◌, inl, inr, refl, arith}
use Rattle.std.specs.List.{list_any}
use Rattle.std.proofs.lemmas.Bool.{and_parts, eqb-true, not-false}
use Rattle.lock_queue.specs.declared.call.LockReply.TheVariants.{Done, Refused}
use Rattle.lock_queue.specs.declared.refusal.Refusal.{Refusal}
use Rattle.lock_queue.specs.declared.refusal.Refusal.TheVariants.{NotPresent}
use Rattle.lock_queue.specs.declared.request.Request.{Request}
use Rattle.lock_queue.specs.declared.want.Want.{Want}
use Rattle.lock_queue.specs.Dequeues.{dequeue_fault, has_wants, without_keys, without_named, dequeue_named}
use Rattle.lock_queue.specs.Dequeues.{dequeue_where, is_of_job, has_id, dequeue_all, dequeue_id}
use Rattle.lock_queue.specs.Jobs.{is_blocking, is_blocked_where, is_not_blocked_where, released, withdrawn_where}
use Rattle.lock_queue.specs.Outcomes.{outcome, unless_refused, first_refusal}
use Rattle.lock_queue.specs.Queue.{names, granted_behind, chosen_behind}
use Rattle.lock_queue.proofs.Lists.{Sub, Sub-filter, Sub-refl}
use Rattle.lock_laws.proofs.Steps.{Leaves, Releases, none, gone, kept}

-- nothing leaves
pub Releases-same : (job : ℕ) (requests : List Request) → Releases job requests requests
Releases-same job [] = none
Releases-same job (r ∷ rs) = kept r r refl refl (Sub-refl r.wants.items) (inr refl) (Releases-same job rs)

-- requests of the job that pass a test leave
releases-where : (job : ℕ) (test : Request → Bool) → ((r : Request) → test r ≡ true → r.job ≡ job)
    → (requests : List Request)
    → Releases job requests (filter (λ r. not (test r)) requests)
releases-where job test own [] = none
releases-where job test own (r ∷ rs) = go (releases-where job test own rs) (test r) refl
  where
    go : Releases job rs (filter (λ r. not (test r)) rs) → (b : Bool) → test r ≡ b
        → Releases job (r ∷ rs) (cond (not b) (r ∷ filter (λ r. not (test r)) rs) (filter (λ r. not (test r)) rs))
    go rest true e = gone r (inl (own r e)) rest
    go rest false e = kept r r refl refl (Sub-refl r.wants.items) (inr refl) rest

-- a dequeue of the requests that pass a test
step-where : (job : ℕ) (test : Request → Bool) → ((r : Request) → test r ≡ true → r.job ≡ job)
    → (requests : List Request)
    → Releases job requests (dequeue_where requests test).requests
step-where job test own requests =
    elim (list_any test requests) as (λ b.
    Releases job requests (cond b (outcome (filter (λ r. not (test r)) requests) Done) (outcome requests (Refused NotPresent))).requests) [
      | true ↦ releases-where job test own requests
      | false ↦ Releases-same job requests
    ]

-- functions 1 and 2
pub releases-all : (requests : List Request) (job : ℕ) → Releases job requests (dequeue_all requests job).requests
releases-all requests job = step-where job (is_of_job job) (λ r t. eqb-true r.job job t) requests

pub releases-id : (requests : List Request) (job id : ℕ) → Releases job requests (dequeue_id requests job id).requests
releases-id requests job id =
    step-where job (has_id job id) (λ r t. eqb-true r.job job (and_parts (r.job == job) (r.id == id) t).0) requests

-- no wants are counted
no-wants : (ws : List Want) → not (length ws == 0) ≡ false → ws ≡ []
no-wants [] h = refl
no-wants (w ∷ ws) h = absurd (let e : length (w ∷ ws) ≡ 0 = eqb-true _ _ (not-false _ h) in omega (arith, e))

-- one request gives up the named keys
one-left : (job : ℕ) (named : List Want) (r : Request) (q : Request) (before after : List Request) → q.job ≡ r.job
    → q.kind ≡ r.kind
    → Sub q.wants.items r.wants.items → (r.job ≡ job) ⊎ (q ≡ r) → Releases job before after
    → Releases job (r ∷ before) (cond (has_wants q) (q ∷ after) after)
one-left job named r q before after j k f why rest = go (has_wants q) refl
  where
    go : (b : Bool) → has_wants q ≡ b → Releases job (r ∷ before) (cond b (q ∷ after) after)
    go true e = kept r q j k f why rest
    go false e =
        let empty : q.wants.items ≡ [] = no-wants q.wants.items e in
        elim why [ inl own ↦ gone r (inl own) rest | inr same ↦ gone r (inr (ap (λ (u : Request). u.wants.items) (sym same) ∙ empty)) rest ]

-- the list without the named keys of a job
releases-without : (requests : List Request) (job : ℕ) (named : List Want)
    → Releases job requests (without_named requests job named)
releases-without [] job named = none
releases-without (r ∷ rs) job named =
    go (releases-without rs job named) (r.job == job) refl
  where
    rest-left : List Request
    rest-left = without_named rs job named

    go : Releases job rs rest-left → (b : Bool) → (r.job == job) ≡ b
        → Releases job (r ∷ rs) (cond (has_wants (cond b (without_keys named r) r)) (cond b (without_keys named r) r ∷ rest-left) rest-left)
    go rest true e =
        one-left job named r (without_keys named r) rs rest-left refl refl
        (Sub-filter (λ w. not (names named w.key)) r.wants.items) (inl (eqb-true r.job job e)) rest
    go rest false e = one-left job named r r rs rest-left refl refl (Sub-refl r.wants.items) (inr refl) rest

-- function 0
pub releases-named : (requests : List Request) (job : ℕ) (named : List Want)
    → Releases job requests (dequeue_named requests job named).requests
releases-named requests job named = go (first_refusal (dequeue_fault requests job) [] named)
  where
    go : (o : Option Refusal)
        → Releases job requests (unless_refused requests o (outcome (without_named requests job named) Done)).requests
    go (Some f) = Releases-same job requests
    go None = releases-without requests job named

-- a job that is gone
pub releases-released : (requests : List Request) (job : ℕ) → Releases job requests (released requests job)
releases-released requests job = releases-where job (is_of_job job) (λ r t. eqb-true r.job job t) requests

-- waits that are given up
releases-blocked : (waiters : ℕ → Bool) (e rs : List Request)
    → Leaves (λ n. waiters n ≡ true) rs (chosen_behind (is_not_blocked_where waiters) e rs)
releases-blocked waiters e [] = none
releases-blocked waiters e (r ∷ rs) = go (releases-blocked waiters (e ++ r ∷ []) rs) (is_blocked_where waiters e r) refl
  where
    go : Leaves (λ n. waiters n ≡ true) rs (chosen_behind (is_not_blocked_where waiters) (e ++ r ∷ []) rs) → (b : Bool)
        → is_blocked_where waiters e r ≡ b
        → Leaves (λ n. waiters n ≡ true) (r ∷ rs)
        (cond (not b) (r ∷ chosen_behind (is_not_blocked_where waiters) (e ++ r ∷ []) rs)
        (chosen_behind (is_not_blocked_where waiters) (e ++ r ∷ []) rs))
    go rest true t =
        let parts = and_parts (waiters r.job && is_blocking r.kind) (not (granted_behind e r)) t in
        gone r (inl (and_parts (waiters r.job) (is_blocking r.kind) parts.0).0) rest
    go rest false t = kept r r refl refl (Sub-refl r.wants.items) (inr refl) rest

pub releases-withdrawn : (requests : List Request) (waiters : ℕ → Bool)
    → Leaves (λ n. waiters n ≡ true) requests (withdrawn_where requests waiters)
releases-withdrawn requests waiters = releases-blocked waiters [] requests
