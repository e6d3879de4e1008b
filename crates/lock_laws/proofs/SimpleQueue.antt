-- The queue without groups and quotas.
use Rattle.std.proofs.Common.{◌≡◌, ◌≤◌, ◌<◌, ◌∙◌, sym, ap, subst, ℕ, zero, suc, Bool, true, false, not, cond, ◌==◌, ◌&&◌, ◌||◌, List, [], ◌∷◌, ◌++◌, length}
use Rattle.std.proofs.Common.{map, take, filter, nat_le, nat_lt, Option, Some, None, slice_get, inl, inr, refl, arith, length-append}
use Rattle.std.specs.List.{list_all, list_any}
use Rattle.std.proofs.Math.Bool.{and-true}
use Rattle.std.proofs.lemmas.Bool.{and_parts, eqb-true, eq-eqb, ltb-true, lt-leb}
use Rattle.std.proofs.lemmas.List.{length-map}
use Rattle.arrayvec.specs.ArrayVec.{ArrayVec}
use Rattle.lock_queue.specs.declared.call.Asking.{Asking}
use Rattle.lock_queue.specs.declared.call.LockCall.{LockCall}
use Rattle.lock_queue.specs.declared.call.LockCall.TheVariants.{Enqueue, Modify, DequeueNamed, DequeueAll, DequeueId}
use Rattle.lock_queue.specs.declared.call.LockReply.TheVariants.{Granted, Done, Refused}
use Rattle.lock_queue.specs.declared.refusal.Refusal.{Refusal}
use Rattle.lock_queue.specs.declared.refusal.Refusal.TheVariants.{LevelOrder, NotPresent, QueueFull, NoVector, OverQuota, WouldLose}
use Rattle.lock_queue.specs.declared.request.EnqueueKind.{EnqueueKind}
use Rattle.lock_queue.specs.declared.request.EnqueueKind.TheVariants.{Blocking, AtOnce, Interrupt}
use Rattle.lock_queue.specs.declared.key.Key.{Key}
use Rattle.lock_queue.specs.declared.request.Request.{Request}
use Rattle.lock_queue.specs.declared.want.Want.{Want}
use Rattle.lock_queue.specs.Calls.{outcome_of}
use Rattle.lock_queue.specs.Changes.{changed, changed_group, changed_want, modify, modify_fault, some_lost_behind}
use Rattle.lock_queue.specs.Dequeues.{dequeue_fault, dequeue_where, has_id, is_of_job, with_wants, without_keys_of, without_named, has_wants}
use Rattle.lock_queue.specs.Enqueues.{arrival, enqueue_fault, enqueue_refusal, not_granted, request_of, some_too_low, with_arrival}
use Rattle.lock_queue.specs.Jobs.{is_blocked_by, is_blocking, is_in_the_way, is_interrupt, is_kept_by}
use Rattle.lock_queue.specs.Keys.{same_key}
use Rattle.lock_queue.specs.Outcomes.{outcome, unless_refused, refuse_if, or_else, first_refusal}
use Rattle.lock_queue.specs.Pools.{PoolShare}
use Rattle.lock_queue.specs.Queue.{agree, all_wants, chosen_behind, fits, fits_beside, granted, granted_behind, is_granted, is_owner}
use Rattle.lock_queue.specs.Queue.{is_pooled, is_waiter, names, requests_of, some_behind, wants_at, wants_of}
use Rattle.lock_queue.proofs.Lists.{Has, Has-cases, Has-flat_map, Sub-filter, Sub-length, filter-Has, flat_map-Has, list_all-Has, list_all-each, map-Has}
use Rattle.lock_laws.specs.Simple.{CallsAreSimple, RequestsAreSimple, RunsSimply, SpellingIsSimple, has_no_group, have_no_groups, is_simple_call}
use Rattle.lock_laws.specs.Simple.{is_simple_owner, is_simple_waiter, is_simply_blocked_by, is_simply_granted, is_simply_in_the_way, is_simply_kept_by}
use Rattle.lock_laws.specs.Simple.{simple_arrival, simple_modify, simple_outcome, simple_refusal, simple_requests_after, simple_replies_to, simply_agree}
use Rattle.lock_laws.specs.Simple.{simply_changed, simply_changed_want, simply_fits, simply_fits_beside, simply_granted, simply_granted_behind}
use Rattle.lock_laws.specs.Simple.{some_simply_lost_behind, with_simple_changes}
use Rattle.lock_laws.proofs.CallSteps.{Step, grows, releases, step_of}
use Rattle.lock_laws.proofs.Positions.{slice_get-Has}
use Rattle.lock_laws.proofs.Steps.{Grows, stays, arrives, changes, Releases-length, is_job_of}

-- tests that say the same of each element say the same of a list
module _ {X : Type 0} where
  all-alike : (p q : X → Bool) (xs : List X) → ((x : X) → Has xs x → p x ≡ q x) → list_all p xs ≡ list_all q xs
  all-alike p q [] same = refl
  all-alike p q (x ∷ xs) same =
      let rest = all-alike p q xs (λ y h. same y (inr h)) in
      λ i. same x (inl refl) i && rest i

  any-alike : (p q : X → Bool) (xs : List X) → ((x : X) → Has xs x → p x ≡ q x) → list_any p xs ≡ list_any q xs
  any-alike p q [] same = refl
  any-alike p q (x ∷ xs) same =
      let rest = any-alike p q xs (λ y h. same y (inr h)) in
      λ i. same x (inl refl) i || rest i

  map-alike : {Y : Type 0} (f g : X → Y) (xs : List X) → ((x : X) → Has xs x → f x ≡ g x) → map f xs ≡ map g xs
  map-alike f g [] same = refl
  map-alike f g (x ∷ xs) same =
      let rest = map-alike f g xs (λ y h. same y (inr h)) in
      λ i. same x (inl refl) i ∷ rest i

-- wants without groups, and requests of such wants
abbrev Bare : List Want → Type 0
Bare ws = (w : Want) → Has ws w → w.group ≡ 0

abbrev BareAll : List Request → Type 0
BareAll rs = (r : Request) → Has rs r → Bare r.wants.items

bare : (ws : List Want) → list_all has_no_group ws ≡ true → Bare ws
bare ws t w h = eqb-true w.group 0 (list_all-Has has_no_group ws w t h)

bare-all : (rs : List Request) → have_no_groups rs ≡ true → BareAll rs
bare-all rs t r h w k = bare (all_wants rs) t w (Has-flat_map (λ q. q.wants.items) rs r w h k)

no-groups : (rs : List Request) → BareAll rs → have_no_groups rs ≡ true
no-groups rs b =
    list_all-each has_no_group (all_wants rs)
    (λ w h. let found = flat_map-Has (λ q. q.wants.items) rs w h in eq-eqb w.group 0 (b found.0 found.1 w found.2))

bare-wants : (rs : List Request) → BareAll rs → (key : Key) → Bare (wants_at rs key)
bare-wants rs b key w h =
    let kept = filter-Has (λ v. same_key v.key key) (all_wants rs) w h in
    let found = flat_map-Has (λ q. q.wants.items) rs w kept.1 in
    b found.0 found.1 w found.2

bare-push : (rs : List Request) (r : Request) → BareAll rs → Bare r.wants.items → BareAll (rs ++ r ∷ [])
bare-push rs r b own q h = elim (Has-cases rs (r ∷ []) q h) [
  | inl k ↦ b q k
  | inr k ↦ elim k [ inl e ↦ λ w m. own w (subst (λ u. Has u.wants.items w) (sym e) m) | inr bad ↦ absurd bad ]
]

-- which wants fit and which requests are granted
agree-simply : (v w : Want) → v.group ≡ 0 → w.group ≡ 0 → agree v w ≡ simply_agree v w
agree-simply v w a b =
    ap (λ t. (v.shared && w.shared) && t) (eq-eqb v.group w.group (a ∙ sym b)) ∙ and-true (v.shared && w.shared)

beside-simply : (ws : List Want) (w : Want) (pool : Option PoolShare) → Bare ws → w.group ≡ 0
    → fits_beside ws w pool ≡ simply_fits_beside ws w pool
beside-simply ws w None b none = all-alike (λ v. agree v w) (λ v. simply_agree v w) ws (λ v h. agree-simply v w (b v h) none)
beside-simply ws w (Some share) b none = refl

fits-simply : (rs : List Request) (w : Want) → BareAll rs → w.group ≡ 0 → fits rs w ≡ simply_fits rs w
fits-simply rs w b none = beside-simply (wants_at rs w.key) w w.pool (bare-wants rs b w.key) none

granted-simply : (rs : List Request) (r : Request) → BareAll rs → Bare r.wants.items
    → granted_behind rs r ≡ simply_granted_behind rs r
granted-simply rs r b own = all-alike (fits rs) (simply_fits rs) r.wants.items (λ w h. fits-simply rs w b (own w h))

take-Has : {X : Type 0} (xs : List X) (i : ℕ) (x : X) → Has (take i xs) x → Has xs x
take-Has [] i x h = absurd (elim i as (λ n. Has (take n []) x → ⊥) [ zero ↦ λ k. k | suc n ↦ λ k. k ] h)
take-Has (y ∷ xs) zero x h = absurd h
take-Has (y ∷ xs) (suc i) x (inl e) = inl e
take-Has (y ∷ xs) (suc i) x (inr h) = inr (take-Has xs i x h)

granted_at-simply : (rs : List Request) (i : ℕ) → BareAll rs → granted rs i ≡ simply_granted rs i
granted_at-simply rs i b = go (slice_get rs i) refl
  where
    go : (o : Option Request) → slice_get rs i ≡ o → is_granted (take i rs) o ≡ is_simply_granted (take i rs) o
    go None e = refl
    go (Some r) e = granted-simply (take i rs) r (λ q h. b q (take-Has rs i q h)) (b r (slice_get-Has rs i r e))

-- tests that say the same behind requests without groups
abbrev Alike : (List Request → Request → Bool) → (List Request → Request → Bool) → Type 0
Alike t u = (earlier : List Request) (r : Request) → BareAll earlier → Bare r.wants.items → t earlier r ≡ u earlier r

chosen-alike : (t u : List Request → Request → Bool) → Alike t u → (earlier later : List Request) → BareAll earlier
    → BareAll later
    → chosen_behind t earlier later ≡ chosen_behind u earlier later
chosen-alike t u same earlier [] b c = refl
chosen-alike t u same earlier (r ∷ later) b c =
    let here = same earlier r b (c r (inl refl)) in
    let rest = chosen-alike t u same (earlier ++ r ∷ []) later (bare-push earlier r b (c r (inl refl))) (λ q h. c q (inr h)) in
    λ i. cond (here i) (r ∷ rest i) (rest i)

some-alike : (t u : List Request → Request → Bool) → Alike t u → (earlier later : List Request) → BareAll earlier
    → BareAll later
    → some_behind t earlier later ≡ some_behind u earlier later
some-alike t u same earlier [] b c = refl
some-alike t u same earlier (r ∷ later) b c =
    let here = same earlier r b (c r (inl refl)) in
    let rest = some-alike t u same (earlier ++ r ∷ []) later (bare-push earlier r b (c r (inl refl))) (λ q h. c q (inr h)) in
    λ i. here i || rest i

kept-alike : (job : ℕ) (earlier : List Request) (w : Want) → BareAll earlier → w.group ≡ 0
    → is_kept_by job earlier w ≡ is_simply_kept_by job earlier w
kept-alike job earlier w b none =
    let fit = fits-simply earlier w b none in
    let of_job : BareAll (requests_of earlier job) = λ r h. b r (filter-Has (λ q. q.job == job) earlier r h).1 in
    let way =
    any-alike (λ v. is_in_the_way v w) (λ v. is_simply_in_the_way v w) (wants_at (requests_of earlier job) w.key)
    (λ v h. ap (λ t. is_pooled v || not t) (agree-simply v w (bare-wants (requests_of earlier job) of_job w.key v h) none)) in
    λ i. not (fit i) && way i

waits-alike : (job other : ℕ) → Alike (is_blocked_by job other) (is_simply_blocked_by job other)
waits-alike job other earlier r b own =
    let grant = granted-simply earlier r b own in
    let kept =
    any-alike (is_kept_by other earlier) (is_simply_kept_by other earlier) r.wants.items
    (λ w h. kept-alike other earlier w b (own w h)) in
    λ i. ((r.job == job && is_blocking r.kind) && not (grant i)) && kept i

none-bare : BareAll []
none-bare r h = absurd h

pub requests_are_simple : RequestsAreSimple
requests_are_simple rs t = record {
  owned =
      λ key. chosen-alike (is_owner key) (is_simple_owner key)
      (λ e r b own. ap (λ g. names r.wants.items key && g) (granted-simply e r b own)) [] rs none-bare (bare-all rs t);
  awaited =
      λ key. chosen-alike (is_waiter key) (is_simple_waiter key)
      (λ e r b own. ap (λ g. names r.wants.items key && not g) (granted-simply e r b own)) [] rs none-bare (bare-all rs t);
  waits = λ job other. some-alike (is_blocked_by job other) (is_simply_blocked_by job other) (waits-alike job other) [] rs none-bare (bare-all rs t);
}

-- wants that are changed
changed_group-none : (b : Bool) (w : Want) → w.group ≡ 0 → changed_group b w ≡ w.group
changed_group-none true w none = elim w.shared as (λ t. cond t w.group 0 ≡ w.group) [ true ↦ refl | false ↦ sym none ]
changed_group-none false w none = elim w.shared as (λ t. cond t 0 w.group ≡ w.group) [ true ↦ sym none | false ↦ refl ]

want-simply : (terms : List Want) (w : Want) → w.group ≡ 0 → changed_want terms w ≡ simply_changed_want terms w
want-simply [] w none = refl
want-simply (c ∷ later) w none =
    let group = changed_group-none c.shared w none in
    let rest = want-simply later w none in
    λ i. cond (same_key w.key c.key) (record w { shared = c.shared; group = group i }) (rest i)

want-bare : (terms : List Want) (w : Want) → w.group ≡ 0 → (simply_changed_want terms w).group ≡ 0
want-bare [] w none = none
want-bare (c ∷ later) w none =
    elim (same_key w.key c.key) as (λ b. (cond b (record w { shared = c.shared }) (simply_changed_want later w)).group ≡ 0) [
      | true ↦ none
      | false ↦ want-bare later w none
    ]

changed-simply : (job : ℕ) (terms : List Want) (r : Request) → Bare r.wants.items
    → changed job terms r ≡ simply_changed job terms r
changed-simply job terms r own =
    let wants = map-alike (changed_want terms) (simply_changed_want terms) r.wants.items (λ w h. want-simply terms w (own w h)) in
    λ i. cond (r.job == job) (with_wants r (wants i)) r

changed-bare : (job : ℕ) (terms : List Want) (r : Request) → Bare r.wants.items
    → Bare (simply_changed job terms r).wants.items
changed-bare job terms r own =
    elim (r.job == job) as (λ b. Bare (cond b (with_wants r (map (simply_changed_want terms) r.wants.items)) r).wants.items) [
      | true ↦ λ w h.
          let found = map-Has (simply_changed_want terms) r.wants.items w h in
          subst (λ u. u.group ≡ 0) found.2 (want-bare terms found.0 (own found.0 found.1))
      | false ↦ own
    ]

changes-bare : (job : ℕ) (terms : List Want) (rs : List Request) → BareAll rs
    → BareAll (with_simple_changes rs job terms)
changes-bare job terms rs b r h =
    let found = map-Has (simply_changed job terms) rs r h in
    subst (λ u. Bare u.wants.items) found.2 (changed-bare job terms found.0 (b found.0 found.1))

lost-simply : (before after rs later : List Request) → BareAll before → BareAll after → BareAll rs → BareAll later
    → some_lost_behind before after rs later ≡ some_simply_lost_behind before after rs later
lost-simply before after [] later a b c d = refl
lost-simply before after (r ∷ rest) [] a b c d = refl
lost-simply before after (r ∷ rest) (s ∷ later) a b c d =
    let had = granted-simply before r a (c r (inl refl)) in
    let has = granted-simply after s b (d s (inl refl)) in
    let behind =
    lost-simply (before ++ r ∷ []) (after ++ s ∷ []) rest later (bare-push before r a (c r (inl refl)))
    (bare-push after s b (d s (inl refl))) (λ q h. c q (inr h)) (λ q h. d q (inr h)) in
    λ i. (had i && not (has i)) || behind i

-- a call leaves and answers the same
module _ (size : ℕ) (rs : List Request) (b : BareAll rs) (job : ℕ) where
  module _ (asking : Asking) (wants : ArrayVec Want) (own : Bare wants.items) where
    arrival-bare : (notified : Bool) → BareAll (with_arrival rs job asking notified wants)
    arrival-bare notified = bare-push rs (request_of job asking notified wants) b own

    not_granted-bare : (kind : EnqueueKind) → BareAll (not_granted rs (with_arrival rs job asking false wants) kind).requests
    not_granted-bare Blocking = arrival-bare false
    not_granted-bare AtOnce = b
    not_granted-bare Interrupt = arrival-bare false

    enqueue-bare : (refusal : Option Refusal) → BareAll (unless_refused rs refusal (simple_arrival rs job asking wants)).requests
    enqueue-bare (Some f) = b
    enqueue-bare None =
        elim (simply_granted (with_arrival rs job asking false wants) (length rs)) as (λ t.
        BareAll
        (cond t (outcome (with_arrival rs job asking (is_interrupt asking.kind) wants) Granted)
        (not_granted rs (with_arrival rs job asking false wants) asking.kind)).requests) [
          | true ↦ arrival-bare (is_interrupt asking.kind)
          | false ↦ not_granted-bare asking.kind
        ]

    arrival-simply : arrival rs job asking wants ≡ simple_arrival rs job asking wants
    arrival-simply =
        ap
        (λ t. cond t (outcome (with_arrival rs job asking (is_interrupt asking.kind) wants) Granted)
        (not_granted rs (with_arrival rs job asking false wants) asking.kind))
        (granted_at-simply (with_arrival rs job asking false wants) (length rs) (arrival-bare false))

    refusal-simply : length rs ≤ size → size < asking.quota
        → enqueue_refusal size rs job asking wants.items ≡ simple_refusal size rs job asking wants.items
    refusal-simply few many =
        let fewer = Sub-length (Sub-filter (λ r. r.job == job) rs) in
        let under : nat_le asking.quota (length (requests_of rs job)) ≡ false =
        lt-leb asking.quota (length (requests_of rs job)) (omega arith) in
        ap
        (λ t. or_else (first_refusal (enqueue_fault rs job) [] wants.items)
        (or_else (refuse_if (some_too_low (wants_of rs job) wants.items) LevelOrder)
        (or_else (refuse_if (is_interrupt asking.kind && not asking.armed) NoVector)
        (or_else (refuse_if t OverQuota) (refuse_if (nat_le size (length rs)) QueueFull))))) under

    enqueue-simply : length rs ≤ size → size < asking.quota
        → outcome_of size rs job (Enqueue asking wants) ≡ simple_outcome size rs job (Enqueue asking wants)
    enqueue-simply few many =
        let refusal = refusal-simply few many in
        let arrives = arrival-simply in
        λ i. unless_refused rs (refusal i) (arrives i)

  modify-simply : (terms : List Want) → modify rs job terms ≡ simple_modify rs job terms
  modify-simply terms =
      let made = map-alike (changed job terms) (simply_changed job terms) rs (λ r h. changed-simply job terms r (b r h)) in
      let lost =
      ap (some_lost_behind [] [] rs) made
      ∙ lost-simply [] [] rs (with_simple_changes rs job terms) none-bare none-bare b (changes-bare job terms rs b) in
      λ i. unless_refused rs (or_else (first_refusal (modify_fault rs job) [] terms) (refuse_if (lost i) WouldLose)) (outcome (made i) Done)

  refused-bare : (refusal : Option Refusal) (after : List Request) → BareAll after
      → BareAll (unless_refused rs refusal (outcome after Done)).requests
  refused-bare (Some f) after c = b
  refused-bare None after c = c

  named-bare : (named : List Want) → BareAll (without_named rs job named)
  named-bare named r h =
      let kept = filter-Has has_wants (map (without_keys_of job named) rs) r h in
      let found = map-Has (without_keys_of job named) rs r kept.1 in
      subst (λ u. Bare u.wants.items) found.2 (fewer found.0 (b found.0 found.1))
    where
      fewer : (q : Request) → Bare q.wants.items → Bare (without_keys_of job named q).wants.items
      fewer q own =
          elim (q.job == job) as (λ t. Bare (cond t (with_wants q (filter (λ w. not (names named w.key)) q.wants.items)) q).wants.items) [
            | true ↦ λ w m. own w (filter-Has (λ v. not (names named v.key)) q.wants.items w m).1
            | false ↦ own
          ]

  where-bare : (test : Request → Bool) → BareAll (dequeue_where rs test).requests
  where-bare test =
      elim (list_any test rs) as (λ t. BareAll (cond t (outcome (filter (λ r. not (test r)) rs) Done) (outcome rs (Refused NotPresent))).requests) [
        | true ↦ λ r h. b r (filter-Has (λ q. not (test q)) rs r h).1
        | false ↦ b
      ]

  -- what a call may be, for it to be one of the simple queue
  asked : (asking : Asking) (wants : ArrayVec Want) → is_simple_call size (Enqueue asking wants) ≡ true
      → Bare wants.items × (size < asking.quota)
  asked asking wants t =
      let parts = and_parts (list_all has_no_group wants.items) (nat_lt size asking.quota) t in
      (bare wants.items parts.0, ltb-true size asking.quota parts.1)

  outcome-simply : (call : LockCall) → is_simple_call size call ≡ true → length rs ≤ size
      → outcome_of size rs job call ≡ simple_outcome size rs job call
  outcome-simply (Enqueue asking wants) t few =
      let a = asked asking wants t in enqueue-simply asking wants a.0 few a.1
  outcome-simply (Modify wants) t few = modify-simply wants.items
  outcome-simply (DequeueNamed wants) t few = refl
  outcome-simply DequeueAll t few = refl
  outcome-simply (DequeueId id) t few = refl

  outcome-bare : (call : LockCall) → is_simple_call size call ≡ true → BareAll (simple_outcome size rs job call).requests
  outcome-bare (Enqueue asking wants) t =
      enqueue-bare asking wants (asked asking wants t).0 (simple_refusal size rs job asking wants.items)
  outcome-bare (Modify wants) t =
      refused-bare _ (with_simple_changes rs job wants.items) (changes-bare job wants.items rs b)
  outcome-bare (DequeueNamed wants) t =
      refused-bare (first_refusal (dequeue_fault rs job) [] wants.items) (without_named rs job wants.items) (named-bare wants.items)
  outcome-bare DequeueAll t = where-bare (is_of_job job)
  outcome-bare (DequeueId id) t = where-bare (has_id job id)

-- and leaves no more requests than there is room for
few-grows : (size job : ℕ) (before after : List Request) → Grows size job before after → length before ≤ size
    → length after ≤ size
few-grows size job before after (stays e) few = subst (λ l. length l ≤ size) (sym e) few
few-grows size job before after (arrives r e a) few =
    subst (λ l. length l ≤ size) (sym e) (omega (arith, length-append before (r ∷ []), a.room))
few-grows size job before after (changes f e c) few =
    subst (λ l. length l ≤ size) (sym e) (omega (arith, length-map before f))

few-step : (size job : ℕ) (call : LockCall) (before after : List Request) → Step size job call before after
    → length before ≤ size → length after ≤ size
few-step size job call before after (grows g) few = few-grows size job before after g few
few-step size job call before after (releases d s) few = omega (arith, Releases-length (is_job_of job) s)

runs-simply : (size : ℕ) (rs : List Request) (calls : List (ℕ × LockCall)) → length rs ≤ size → BareAll rs
    → list_all (λ c. is_simple_call size c.1) calls ≡ true
    → RunsSimply size rs calls
runs-simply size rs [] few b t = record { left = refl; replies = refl; groups = no-groups rs b }
runs-simply size rs (c ∷ later) few b t =
    let each = and_parts (is_simple_call size c.1) (list_all (λ d. is_simple_call size d.1) later) t in
    let same = outcome-simply size rs b c.0 c.1 each.0 few in
    let after : BareAll (outcome_of size rs c.0 c.1).requests =
    subst (λ o. BareAll o.requests) (sym same) (outcome-bare size rs b c.0 c.1 each.0) in
    let left = few-step size c.0 c.1 rs (outcome_of size rs c.0 c.1).requests (step_of size rs c.0 c.1) few in
    let rest = runs-simply size (outcome_of size rs c.0 c.1).requests later left after each.1 in
    record {
      left = rest.left ∙ ap (λ o. simple_requests_after size o.requests later) same;
      replies = ap (λ l. (outcome_of size rs c.0 c.1).reply ∷ l) rest.replies ∙ ap (λ o. o.reply ∷ simple_replies_to size o.requests later) same;
      groups = rest.groups;
    }

pub calls_are_simple : CallsAreSimple
calls_are_simple size rs calls few t each = runs-simply size rs calls few (bare-all rs t) each

pub spelling_is_simple : SpellingIsSimple
spelling_is_simple true size amount = refl
spelling_is_simple false size amount = refl
