-- Well-formed requests stay so over each change of the list.
use Rattle.std.proofs.Common.{◌≡◌, ◌≤◌, ◌∙◌, sym, ap, subst, ℕ, Bool, true, false, not, ◌&&◌, ◌||◌, ◌==◌, cond, List, [], ◌∷◌}
use Rattle.std.proofs.Common.{◌++◌, length, map, filter, Option, Some, None, inl, inr, refl, arith, nat_le}
use Rattle.std.specs.List.{list_all, list_any}
use Rattle.std.proofs.lemmas.Bool.{and_parts, and_from, and_cases, or_parts, both_ways, not_from_false, leb-true, le-leb, eqb-true, false_from_ne_true}
use Rattle.std.proofs.lemmas.List.{length-map}
use Rattle.std.proofs.lemmas.List.Folds.{list_all-append}
use Rattle.arrayvec.specs.ArrayVec.{ArrayVec}
use Rattle.word36.specs.declared.sizes.TheConstants.{JOBS, LOCKS_A_CALL}
use Rattle.lock_queue.specs.declared.call.Asking.{Asking}
use Rattle.lock_queue.specs.declared.call.LockCall.TheVariants.{Modify, DequeueNamed, DequeueAll, DequeueId}
use Rattle.lock_queue.specs.declared.call.LockReply.TheVariants.{Done, Refused}
use Rattle.lock_queue.specs.declared.refusal.Refusal.{Refusal}
use Rattle.lock_queue.specs.declared.refusal.Refusal.TheVariants.{NotPresent}
use Rattle.lock_queue.specs.declared.request.Request.{Request}
use Rattle.lock_queue.specs.declared.want.Want.{Want}
use Rattle.lock_queue.specs.Calls.{outcome_of}
use Rattle.lock_queue.specs.Changes.{modify_fault, changed_group, changed_want, changed, with_changes}
use Rattle.lock_queue.specs.Dequeues.{has_wants, with_wants, without_keys, without_keys_of, without_named, dequeue_where, is_of_job, has_id}
use Rattle.lock_queue.specs.Enqueues.{enqueue_fault, request_of}
use Rattle.lock_queue.specs.Jobs.{as_notified, is_not_blocked_where, is_pending, released, notified_behind, job_notified, withdrawn_where}
use Rattle.lock_queue.specs.Keys.{same_key}
use Rattle.lock_queue.specs.Outcomes.{outcome, unless_refused, first_refusal}
use Rattle.lock_queue.specs.Queue.{all_wants, chosen_behind, is_pooled, names, requests_of, wants_at, wants_of}
use Rattle.lock_queue.specs.WellFormed.{is_job, is_in_range, shares_rightly, are_apart, are_right_wants, is_well_formed, are_well_formed}
use Rattle.lock_queue.proofs.Lists.{Has, Has-filter, Has-flat_map, filter-Has, map-Has, list_all-Has, list_all-each}
use Rattle.lock_queue.proofs.Lists.{list_any-Has, Sub, nil, skip, keep, Sub-all, Sub-filter, Sub-length}
use Rattle.lock_queue.proofs.Refusing.{refuse_if-None, or_else-None}

-- the test of a job's number
pub right_job : (n : ℕ) → (1 ≤ n) × (n ≤ JOBS) → is_job n ≡ true
right_job n h = and_from _ _ (le-leb 1 n h.0) (le-leb n JOBS h.1)

-- what a well-formed request is, part by part
record Parts (r : Request) : Type 0 where
  job : is_job r.job ≡ true
  some : has_wants r ≡ true
  few : nat_le (length r.wants.items) LOCKS_A_CALL ≡ true
  range : list_all is_in_range r.wants.items ≡ true
  unshared : list_all shares_rightly r.wants.items ≡ true
  apart : are_apart r.wants.items ≡ true

parts_of : (r : Request) → is_well_formed r ≡ true → Parts r
parts_of r h =
    let both = and_parts (is_job r.job && (has_wants r && nat_le (length r.wants.items) LOCKS_A_CALL)) (are_right_wants r.wants.items) h in
    let front = and_parts (is_job r.job) (has_wants r && nat_le (length r.wants.items) LOCKS_A_CALL) both.0 in
    let number = and_parts (has_wants r) (nat_le (length r.wants.items) LOCKS_A_CALL) front.1 in
    let wants = and_parts (list_all is_in_range r.wants.items && list_all shares_rightly r.wants.items) (are_apart r.wants.items) both.1 in
    let each = and_parts (list_all is_in_range r.wants.items) (list_all shares_rightly r.wants.items) wants.0 in
    record { job = front.0; some = number.0; few = number.1; range = each.0; unshared = each.1; apart = wants.1 }

-- its job has a number, and its wants are in range
pub job_number : (r : Request) → is_well_formed r ≡ true → is_job r.job ≡ true
job_number r h = (parts_of r h).job

pub wants_in_range : (r : Request) → is_well_formed r ≡ true → list_all is_in_range r.wants.items ≡ true
wants_in_range r h = (parts_of r h).range

from_parts : (r : Request) → Parts r → is_well_formed r ≡ true
from_parts r p =
    and_from _ _ (and_from _ _ p.job (and_from _ _ p.some p.few)) (and_from _ _ (and_from _ _ p.range p.unshared) p.apart)

-- ---- fewer requests, and fewer wants

well-sub : (rs qs : List Request) → Sub qs rs → are_well_formed rs ≡ true → are_well_formed qs ≡ true
well-sub rs qs s h = Sub-all is_well_formed s h

apart-sub : {xs ys : List Want} → Sub xs ys → are_apart ys ≡ true → are_apart xs ≡ true
apart-sub nil h = refl
apart-sub (skip {xs} {ys} y s) h = apart-sub s (and_parts (list_all (λ v. not (same_key y.key v.key)) ys) (are_apart ys) h).1
apart-sub (keep {xs} {ys} x s) h =
    let p = and_parts (list_all (λ v. not (same_key x.key v.key)) ys) (are_apart ys) h in
    and_from _ _ (Sub-all (λ v. not (same_key x.key v.key)) s p.0) (apart-sub s p.1)

fewer : (a b : ℕ) → a ≤ b → nat_le b LOCKS_A_CALL ≡ true → nat_le a LOCKS_A_CALL ≡ true
fewer a b le h = le-leb a LOCKS_A_CALL (omega (arith, leb-true b LOCKS_A_CALL h))

-- ---- what leaves

pub Sub-chosen : (test : List Request → Request → Bool) (e rs : List Request) → Sub (chosen_behind test e rs) rs
Sub-chosen test e [] = nil
Sub-chosen test e (r ∷ rs) =
    elim (test e r) as (λ b. Sub (cond b (r ∷ chosen_behind test (e ++ r ∷ []) rs) (chosen_behind test (e ++ r ∷ []) rs)) (r ∷ rs)) [
      | true ↦ keep r (Sub-chosen test (e ++ r ∷ []) rs)
      | false ↦ skip r (Sub-chosen test (e ++ r ∷ []) rs)
    ]

pub well-released : (requests : List Request) (job : ℕ) → are_well_formed requests ≡ true
    → are_well_formed (released requests job) ≡ true
well-released requests job h = well-sub requests _ (Sub-filter (λ r. not (r.job == job)) requests) h

pub well-withdrawn : (requests : List Request) (waiters : ℕ → Bool) → are_well_formed requests ≡ true
    → are_well_formed (withdrawn_where requests waiters) ≡ true
well-withdrawn requests waiters h = well-sub requests _ (Sub-chosen (is_not_blocked_where waiters) [] requests) h

-- ---- who is notified

well-notified_behind : (test : List Request → Request → Bool) (e rs : List Request) → are_well_formed rs ≡ true
    → are_well_formed (notified_behind test e rs) ≡ true
well-notified_behind test e [] h = refl
well-notified_behind test e (r ∷ rs) h =
    let p = and_parts (is_well_formed r) (are_well_formed rs) h in
    elim (test e r) as (λ b. are_well_formed (cond b (as_notified r ∷ rs) (r ∷ notified_behind test (e ++ r ∷ []) rs)) ≡ true) [
      | true ↦ and_from _ _ p.0 p.1
      | false ↦ and_from _ _ p.0 (well-notified_behind test (e ++ r ∷ []) rs p.1)
    ]

pub well-notified : (requests : List Request) (job : ℕ) → are_well_formed requests ≡ true
    → are_well_formed (job_notified requests job) ≡ true
well-notified requests job h = well-notified_behind (is_pending job) [] requests h

-- ---- wants that are given up

without-parts : (b : Bool) (named : List Want) (r : Request) → Parts r → has_wants (cond b (without_keys named r) r) ≡ true
    → Parts (cond b (without_keys named r) r)
without-parts true named r p some =
    let s : Sub (filter (λ w. not (names named w.key)) r.wants.items) r.wants.items =
    Sub-filter (λ w. not (names named w.key)) r.wants.items in
    record {
      job = p.job;
      some = some;
      few = fewer _ _ (Sub-length s) p.few;
      range = Sub-all is_in_range s p.range;
      unshared = Sub-all shares_rightly s p.unshared;
      apart = apart-sub s p.apart;
    }
without-parts false named r p some = p

well-without : (requests : List Request) (job : ℕ) (named : List Want) → are_well_formed requests ≡ true
    → are_well_formed (without_named requests job named) ≡ true
well-without requests job named h =
    list_all-each is_well_formed (without_named requests job named) (λ q k.
    let stays = filter-Has has_wants (map (without_keys_of job named) requests) q k in
    let from = map-Has (without_keys_of job named) requests q stays.1 in
    let r : Request = from.0 in
    let p : Parts r = parts_of r (list_all-Has is_well_formed requests r h from.1) in
    let some : has_wants (without_keys_of job named r) ≡ true = ap has_wants from.2 ∙ stays.0 in
    subst (λ u. is_well_formed u ≡ true) from.2 (from_parts (without_keys_of job named r) (without-parts (r.job == job) named r p some)))

-- ---- wants that are changed

-- a change keeps key, level and pool
changed-key : (cs : List Want) (w : Want) → (changed_want cs w).key ≡ w.key
changed-key [] w = refl
changed-key (c ∷ cs) w =
    elim (same_key w.key c.key) as (λ b. (cond b (record w { shared = c.shared; group = changed_group c.shared w }) (changed_want cs w)).key ≡ w.key) [
      | true ↦ refl
      | false ↦ changed-key cs w
    ]

changed-range : (cs : List Want) (w : Want) → is_in_range (changed_want cs w) ≡ is_in_range w
changed-range [] w = refl
changed-range (c ∷ cs) w =
    elim (same_key w.key c.key) as
    (λ b. is_in_range (cond b (record w { shared = c.shared; group = changed_group c.shared w }) (changed_want cs w))
    ≡ is_in_range w) [
      | true ↦ refl
      | false ↦ changed-range cs w
    ]

-- it shares no pool, and has group 0 where it is not shared, where each change of the want's key leaves a pool unshared
changed-unshared : (cs : List Want) (w : Want) → shares_rightly w ≡ true
    → ((c : Want) → Has cs c → same_key w.key c.key ≡ true → (c.shared && is_pooled w) ≡ false)
    → shares_rightly (changed_want cs w) ≡ true
changed-unshared [] w h f = h
changed-unshared (c ∷ cs) w h f = go (same_key w.key c.key) refl (changed-unshared cs w h (λ d k e. f d (inr k) e))
  where
    group : (b s : Bool) → w.shared ≡ s → (s || w.group == 0) ≡ true → (b || changed_group b w == 0) ≡ true
    group true s e own = refl
    group false true e own = ap (λ x. cond x 0 w.group == 0) e
    group false false e own = ap (λ x. cond x 0 w.group == 0) e ∙ own

    go : (b : Bool) → same_key w.key c.key ≡ b → shares_rightly (changed_want cs w) ≡ true
        → shares_rightly (cond b (record w { shared = c.shared; group = changed_group c.shared w }) (changed_want cs w)) ≡ true
    go true e rest = and_from _ _ (not_from_false _ (f c (inl refl) e))
        (group c.shared w.shared refl (and_parts (not (w.shared && is_pooled w)) (w.shared || w.group == 0) h).1)
    go false e rest = rest

all-same : {X : Type 0} (p q : X → Bool) → ((x : X) → p x ≡ q x) → (xs : List X) → list_all p xs ≡ list_all q xs
all-same p q same [] = refl
all-same p q same (x ∷ xs) = ap (λ b. b && list_all p xs) (same x) ∙ ap (λ b. q x && b) (all-same p q same xs)

all-map : {X Y : Type 0} (p : Y → Bool) (f : X → Y) (xs : List X) → list_all p (map f xs) ≡ list_all (λ x. p (f x)) xs
all-map p f [] = refl
all-map p f (x ∷ xs) = ap (λ b. p (f x) && b) (all-map p f xs)

changed-apart : (cs ws : List Want) → are_apart (map (changed_want cs) ws) ≡ are_apart ws
changed-apart cs [] = refl
changed-apart cs (w ∷ ws) =
    let here : list_all (λ v. not (same_key (changed_want cs w).key v.key)) (map (changed_want cs) ws) ≡ list_all (λ v. not (same_key w.key v.key)) ws =
    all-map (λ v. not (same_key (changed_want cs w).key v.key)) (changed_want cs) ws
    ∙ all-same (λ v. not (same_key (changed_want cs w).key (changed_want cs v).key)) (λ v. not (same_key w.key v.key))
    (λ v. ap (λ k. not (same_key k (changed_want cs v).key)) (changed-key cs w) ∙ ap (λ k. not (same_key w.key k)) (changed-key cs v)) ws in
    ap (λ b. b && are_apart (map (changed_want cs) ws)) here ∙ ap (λ b. list_all (λ v. not (same_key w.key v.key)) ws && b) (changed-apart cs ws)

module _ (requests : List Request) (job : ℕ) where
  -- a change that is not refused shares no pool of the job
  unpooled : (e cs : List Want) → first_refusal (modify_fault requests job) e cs ≡ None → (c : Want) → Has cs c
      → (c.shared && list_any is_pooled (wants_at (requests_of requests job) c.key)) ≡ false
  unpooled e [] h c k = absurd k
  unpooled e (d ∷ cs) h c (inl same) =
      let here = (or_else-None _ (first_refusal (modify_fault requests job) (e ++ d ∷ []) cs) h).0 in
      let pool = (or_else-None _ _ (or_else-None _ _ here).1).1 in
      subst (λ u. (u.shared && list_any is_pooled (wants_at (requests_of requests job) u.key)) ≡ false) same (refuse_if-None _ _ pool)
  unpooled e (d ∷ cs) h c (inr k) =
      unpooled (e ++ d ∷ []) cs (or_else-None _ (first_refusal (modify_fault requests job) (e ++ d ∷ []) cs) h).1 c k

  pool_kept : (cs : List Want) → first_refusal (modify_fault requests job) [] cs ≡ None → (r : Request) → Has requests r
      → (r.job == job) ≡ true → (w : Want) → Has r.wants.items w → (c : Want) → Has cs c → same_key w.key c.key ≡ true
      → (c.shared && is_pooled w) ≡ false
  pool_kept cs h r in_rs mine w in_r c in_cs same =
      let none = unpooled [] cs h c in_cs in
      elim (and_cases c.shared (list_any is_pooled (wants_at (requests_of requests job) c.key)) none) [
        | inl f ↦ ap (λ b. b && is_pooled w) f
        | inr f ↦
            let there : Has (wants_at (requests_of requests job) c.key) w =
            Has-filter (λ v. same_key v.key c.key) (all_wants (requests_of requests job)) w same
            (Has-flat_map (λ (q : Request). q.wants.items) (requests_of requests job) r w
            (Has-filter (λ (q : Request). q.job == job) requests r mine in_rs) in_r) in
            let not_pooled : is_pooled w ≡ false =
            false_from_ne_true (is_pooled w) (λ t. both_ways _ f (list_any-Has is_pooled (wants_at (requests_of requests job) c.key) w t there)) in
            ap (λ b. c.shared && b) not_pooled ∙ and_no c.shared
      ]
    where
      and_no : (b : Bool) → (b && false) ≡ false
      and_no true = refl
      and_no false = refl

  changed-parts : (cs : List Want) → first_refusal (modify_fault requests job) [] cs ≡ None → (r : Request) → Has requests r → Parts r
      → (b : Bool) → (r.job == job) ≡ b
      → Parts (cond b (with_wants r (map (changed_want cs) r.wants.items)) r)
  changed-parts cs h r in_rs p true mine =
      let same : length (map (changed_want cs) r.wants.items) ≡ length r.wants.items = length-map r.wants.items (changed_want cs) in
      record {
        job = p.job;
        some = ap (λ n. not (n == 0)) same ∙ p.some;
        few = ap (λ n. nat_le n LOCKS_A_CALL) same ∙ p.few;
        range = all-map is_in_range (changed_want cs) r.wants.items
            ∙ all-same (λ w. is_in_range (changed_want cs w)) is_in_range (changed-range cs) r.wants.items ∙ p.range;
        unshared = list_all-each shares_rightly (map (changed_want cs) r.wants.items) (λ v k.
            let from = map-Has (changed_want cs) r.wants.items v k in
            subst (λ u. shares_rightly u ≡ true) from.2
            (changed-unshared cs from.0 (list_all-Has shares_rightly r.wants.items from.0 p.unshared from.1)
            (λ c d e. pool_kept cs h r in_rs mine from.0 from.1 c d e)));
        apart = changed-apart cs r.wants.items ∙ p.apart;
      }
  changed-parts cs h r in_rs p false mine = p

  well-changed : (cs : List Want) → first_refusal (modify_fault requests job) [] cs ≡ None → are_well_formed requests ≡ true
      → are_well_formed (with_changes requests job cs) ≡ true
  well-changed cs h well =
      list_all-each is_well_formed (with_changes requests job cs) (λ q k.
      let from = map-Has (changed job cs) requests q k in
      let r : Request = from.0 in
      let p : Parts r = parts_of r (list_all-Has is_well_formed requests r well from.1) in
      subst (λ u. is_well_formed u ≡ true) from.2 (from_parts (changed job cs r) (changed-parts cs h r from.1 p (r.job == job) refl)))

  -- ---- a request that arrives

  -- its wants are of keys of their own
  record Apart (e ws : List Want) : Type 0 where
    behind : list_all (λ w. list_all (λ v. not (same_key v.key w.key)) e) ws ≡ true
    among : are_apart ws ≡ true

  not-named : (e : List Want) (w : Want) → names e w.key ≡ false → list_all (λ v. not (same_key v.key w.key)) e ≡ true
  not-named [] w h = refl
  not-named (v ∷ e) w h = go (same_key v.key w.key) h (not-named e w)
    where
      go : (b : Bool) → (b || names e w.key) ≡ false
          → (names e w.key ≡ false → list_all (λ v. not (same_key v.key w.key)) e ≡ true)
          → (not b && list_all (λ v. not (same_key v.key w.key)) e) ≡ true
      go true h rest = absurd (cc)
      go false h rest = rest h

  -- what is apart from a list and from one more is apart from both
  parted : (e : List Want) (w : Want) (ws : List Want)
      → list_all (λ u. list_all (λ v. not (same_key v.key u.key)) (e ++ w ∷ [])) ws ≡ true
      → (list_all (λ u. list_all (λ v. not (same_key v.key u.key)) e) ws ≡ true) × (list_all (λ u. not (same_key w.key u.key)) ws ≡ true)
  parted e w [] h = (refl, refl)
  parted e w (u ∷ ws) h =
      let p =
      and_parts (list_all (λ v. not (same_key v.key u.key)) (e ++ w ∷ []))
      (list_all (λ u. list_all (λ v. not (same_key v.key u.key)) (e ++ w ∷ [])) ws) h in
      let rest = parted e w ws p.1 in
      let both : (list_all (λ v. not (same_key v.key u.key)) e && list_all (λ v. not (same_key v.key u.key)) (w ∷ [])) ≡ true =
      sym (list_all-append (λ v. not (same_key v.key u.key)) e (w ∷ [])) ∙ p.0 in
      let q = and_parts (list_all (λ v. not (same_key v.key u.key)) e) (list_all (λ v. not (same_key v.key u.key)) (w ∷ [])) both in
      let one = and_parts (not (same_key w.key u.key)) true q.1 in
      (and_from _ _ q.0 rest.0, and_from _ _ one.0 rest.1)

  apart-found : (e ws : List Want) → first_refusal (enqueue_fault requests job) e ws ≡ None → Apart e ws
  apart-found e [] h = record { behind = refl; among = refl }
  apart-found e (w ∷ ws) h =
      let passed = or_else-None (enqueue_fault requests job e w) (first_refusal (enqueue_fault requests job) (e ++ w ∷ []) ws) h in
      let rest = apart-found (e ++ w ∷ []) ws passed.1 in
      let named = or_parts (names e w.key) (names (wants_of requests job) w.key) (refuse_if-None _ _ (or_else-None _ _ passed.0).1) in
      let q = parted e w ws rest.behind in
      record { behind = and_from _ _ (not-named e w named.0) q.0; among = and_from _ _ q.1 rest.among }

  pub well-arrival : (asking : Asking) (notified : Bool) (wants : ArrayVec Want) → is_job job ≡ true
      → nat_le 1 (length wants.items) ≡ true → list_all shares_rightly wants.items ≡ true
      → first_refusal (enqueue_fault requests job) [] wants.items ≡ None
      → length wants.items ≤ LOCKS_A_CALL → list_all is_in_range wants.items ≡ true → are_well_formed requests ≡ true
      → are_well_formed (requests ++ request_of job asking notified wants ∷ []) ≡ true
  well-arrival asking notified wants mine some unshared passed few range well =
      let r : Request = request_of job asking notified wants in
      let p : Parts r = record {
        job = mine;
        some = some_wants (length wants.items) some;
        few = le-leb (length wants.items) LOCKS_A_CALL few;
        range = range;
        unshared = unshared;
        apart = (apart-found [] wants.items passed).among;
      } in
      list_all-append is_well_formed requests (r ∷ []) ∙ and_from _ _ well (and_from _ _ (from_parts r p) refl)
    where
      some_wants : (n : ℕ) → nat_le 1 n ≡ true → not (n == 0) ≡ true
      some_wants n h = not_from_false _ (false_from_ne_true (n == 0) (λ e. let z : n ≡ 0 = eqb-true n 0 e in absurd (omega (arith, leb-true 1 n h, z))))

-- ---- calls

-- a call that enters no request keeps requests well-formed
module _ (size : ℕ) (requests : List Request) (job : ℕ) (well : are_well_formed requests ≡ true) where
  unless : (l : List Request) (o : Option Refusal) → (o ≡ None → are_well_formed l ≡ true)
      → are_well_formed (unless_refused requests o (outcome l Done)).requests ≡ true
  unless l None h = h refl
  unless l (Some f) h = well

  well-where : (test : Request → Bool) → are_well_formed (dequeue_where requests test).requests ≡ true
  well-where test =
      elim (list_any test requests) as
      (λ b. are_well_formed
      (cond b (outcome (filter (λ r. not (test r)) requests) Done) (outcome requests (Refused NotPresent))).requests ≡ true) [
        | true ↦ well-sub requests _ (Sub-filter (λ r. not (test r)) requests) well
        | false ↦ well
      ]

  pub well-modify : (wants : ArrayVec Want) → are_well_formed (outcome_of size requests job (Modify wants)).requests ≡ true
  well-modify wants =
      unless (with_changes requests job wants.items) _ (λ none. well-changed requests job wants.items (or_else-None _ _ none).0 well)

  pub well-named : (wants : ArrayVec Want) → are_well_formed (outcome_of size requests job (DequeueNamed wants)).requests ≡ true
  well-named wants = unless (without_named requests job wants.items) _ (λ none. well-without requests job wants.items well)

  pub well-all : are_well_formed (outcome_of size requests job DequeueAll).requests ≡ true
  well-all = well-where (is_of_job job)

  pub well-id : (id : ℕ) → are_well_formed (outcome_of size requests job (DequeueId id)).requests ≡ true
  well-id id = well-where (has_id job id)
