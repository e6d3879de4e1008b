-- What a request that arrives has passed.
use Rattle.std.proofs.Common.{◌≡◌, ◌<◌, ◌∙◌, sym, ap, subst, ℕ, Bool, true, false, not, cond, List, [], ◌∷◌, ◌++◌}
use Rattle.std.proofs.Common.{length, map, Option, Some, None, inl, inr, refl, nat_le, ◌==◌}
use Rattle.std.specs.List.{list_all, list_any}
use Rattle.std.proofs.lemmas.Bool.{or_parts, and_cases, leb-false, not-false, eq-eqb}
use Rattle.arrayvec.specs.ArrayVec.{ArrayVec}
use Rattle.lock_queue.specs.declared.call.Asking.{Asking}
use Rattle.lock_queue.specs.declared.call.LockReply.TheVariants.{Granted}
use Rattle.lock_queue.specs.declared.refusal.Refusal.{Refusal}
use Rattle.lock_queue.specs.declared.request.EnqueueKind.{EnqueueKind}
use Rattle.lock_queue.specs.declared.request.EnqueueKind.TheVariants.{Blocking, AtOnce, Interrupt}
use Rattle.lock_queue.specs.declared.request.Request.{Request}
use Rattle.lock_queue.specs.declared.want.Want.{Want}
use Rattle.lock_queue.specs.Jobs.{is_interrupt}
use Rattle.lock_queue.specs.Keys.{same_key}
use Rattle.lock_queue.specs.Enqueues.{are_alike, enqueue_fault, is_too_low, some_too_low, enqueue_refusal}
use Rattle.lock_queue.specs.Enqueues.{request_of, with_arrival, not_granted, arrival, enqueue}
use Rattle.lock_queue.specs.Outcomes.{outcome, unless_refused, first_refusal}
use Rattle.lock_queue.specs.Queue.{names, wants_at, wants_of, requests_of, all_wants, granted}
use Rattle.lock_laws.specs.Claims.{Claim, claim_of, claims_of, claims}
use Rattle.lock_queue.proofs.Fitting.{eq-same_key, keys-apart}
use Rattle.lock_queue.proofs.Lists.{Has, Has-left, Has-right, Has-filter, Has-flat_map, Pairs, Pairs-map, map-Has, flat_map-Has, list_all-Has, list_any-none}
use Rattle.lock_queue.proofs.Refusing.{refuse_if-None, or_else-None}
use Rattle.lock_laws.proofs.Positions.{push-append, nil-append, split_Has}
use Rattle.lock_laws.proofs.Steps.{Ordered, Grows, stays, arrives}

-- each want has passed behind the call's wants before it
pub first_refusal-None : (fault : List Want → Want → Option Refusal) (e ws : List Want)
    → first_refusal fault e ws ≡ None
    → (a b : List Want) (w : Want) → ws ≡ a ++ w ∷ b → fault (e ++ a) w ≡ None
first_refusal-None fault e [] h [] b w is = cc
first_refusal-None fault e [] h (y ∷ a) b w is = cc
first_refusal-None fault e (x ∷ ws) h [] b w is =
    let same : x ≡ w = cc in
    let here : fault e x ≡ None = (or_else-None (fault e x) (first_refusal fault (e ++ x ∷ []) ws) h).0 in
    subst (λ l. fault l w ≡ None) (sym (nil-append e)) (subst (λ u. fault e u ≡ None) same here)
first_refusal-None fault e (x ∷ ws) h (y ∷ a) b w is =
    let same : x ≡ y = cc in
    let rest : ws ≡ a ++ w ∷ b = cc in
    let later = (or_else-None (fault e x) (first_refusal fault (e ++ x ∷ []) ws) h).1 in
    subst (λ l. fault l w ≡ None) (push-append e x a ∙ ap (λ u. e ++ u ∷ a) same) (first_refusal-None fault (e ++ x ∷ []) ws later a b w rest)

-- where no want is too low, each is not behind the ones before it
some_too_low-none : (e ws : List Want) → some_too_low e ws ≡ false → (a b : List Want) (w : Want) → ws ≡ a ++ w ∷ b
    → is_too_low (e ++ a) w ≡ false
some_too_low-none e [] h [] b w is = cc
some_too_low-none e [] h (y ∷ a) b w is = cc
some_too_low-none e (x ∷ ws) h [] b w is =
    let same : x ≡ w = cc in
    let here : is_too_low e x ≡ false = (or_parts (is_too_low e x) (some_too_low (e ++ x ∷ []) ws) h).0 in
    subst (λ l. is_too_low l w ≡ false) (sym (nil-append e)) (subst (λ u. is_too_low e u ≡ false) same here)
some_too_low-none e (x ∷ ws) h (y ∷ a) b w is =
    let same : x ≡ y = cc in
    let rest : ws ≡ a ++ w ∷ b = cc in
    let later = (or_parts (is_too_low e x) (some_too_low (e ++ x ∷ []) ws) h).1 in
    subst (λ l. is_too_low l w ≡ false) (push-append e x a ∙ ap (λ u. e ++ u ∷ a) same) (some_too_low-none (e ++ x ∷ []) ws later a b w rest)

-- a want that is not too low stands above all before
above : (before : List Want) (v w : Want) → is_too_low before w ≡ false → Has before v → w.bypass ≡ false
    → v.level < w.level
above before v w low h free =
    let none : list_any (λ u. nat_le w.level u.level) before ≡ false =
    elim (and_cases (not w.bypass) (list_any (λ u. nat_le w.level u.level) before) low) [ inl e ↦ absurd (cc) | inr e ↦ e ] in
    leb-false w.level v.level (list_any-none (λ u. nat_le w.level u.level) before v none h)

-- a relation of each element and those before it
Pairs-from_splits : {X : Type 0} (R : X → X → Type 0) (xs : List X)
    → ((a b : List X) (x y : X) → xs ≡ a ++ y ∷ b → Has a x → R x y) → Pairs R xs
Pairs-from_splits R [] f = tt
Pairs-from_splits R (x ∷ xs) f = (
  λ y h. let s = split_Has xs y h in f (x ∷ s.before) s.after x y (ap (λ l. x ∷ l) s.is) (inl refl),
  Pairs-from_splits R xs (λ a b u y is h. f (x ∷ a) b u y (ap (λ l. x ∷ l) is) (inr h)),
)

-- two wants of one call: of two keys, and by rising levels
pub record InCall (v w : Want) : Type 0 where
  pub apart : same_key v.key w.key ≡ false
  pub rises : w.bypass ≡ false → v.level < w.level

module _ (size : ℕ) (requests : List Request) (job : ℕ) (wants : List Want) where
  pub record Passed : Type 0 where
    pub each : first_refusal (enqueue_fault requests job) [] wants ≡ None
    pub levels : some_too_low (wants_of requests job) wants ≡ false
    pub room : length requests < size

  -- a request that is not refused has passed
  pub refusal-None : (asking : Asking) → enqueue_refusal size requests job asking wants ≡ None → Passed
  refusal-None asking h =
      let first = or_else-None _ _ h in
      let second = or_else-None _ _ first.1 in
      let third = or_else-None _ _ second.1 in
      let fourth = or_else-None _ _ third.1 in
      record {
        each = first.0;
        levels = refuse_if-None _ _ second.0;
        room = leb-false size (length requests) (refuse_if-None _ _ fourth.1);
      }

  -- what each want of the call has passed
  pub record Fault (a : List Want) (w : Want) : Type 0 where
    pub alike : list_all (λ v. are_alike v w) (wants_at requests w.key) ≡ true
    pub named : names a w.key ≡ false
    pub had : names (wants_of requests job) w.key ≡ false
    pub low : is_too_low (wants_of requests job ++ a) w ≡ false

  -- what that says of each want of the call
  pub fault-None : Passed → (a b : List Want) (w : Want) → wants ≡ a ++ w ∷ b → Fault a w
  fault-None p a b w is =
      let parts = or_else-None _ _ (first_refusal-None (enqueue_fault requests job) [] wants p.each a b w is) in
      let either = or_parts (names a w.key) (names (wants_of requests job) w.key) (refuse_if-None _ _ parts.1) in
      record {
        alike = not-false _ (refuse_if-None _ _ parts.0);
        named = either.0;
        had = either.1;
        low = some_too_low-none (wants_of requests job) wants p.levels a b w is;
      }

  -- the claims of such a request are in order, among themselves and behind the present ones
  pub own_claims : Passed → Pairs Ordered (map (claim_of job) wants)
  own_claims p =
      Pairs-map InCall Ordered (claim_of job)
      (λ v w h. record {
        alike = λ same. absurd (keys-apart v.key w.key h.apart same);
        apart = λ e. keys-apart v.key w.key h.apart;
        rises = λ e free. h.rises free;
      }) wants
      (Pairs-from_splits InCall wants (λ a b v w is h.
      let f = fault-None p a b w is in
      record {
        apart = list_any-none (λ u. same_key u.key w.key) a v f.named h;
        rises = above (wants_of requests job ++ a) v w f.low (Has-right (wants_of requests job) a v h);
      }))

  pub claims_behind : Passed → (c d : Claim) → Has (claims requests) c → Has (map (claim_of job) wants) d → Ordered c d
  claims_behind p c d h k =
      let w = map-Has (claim_of job) wants d k in
      let r = flat_map-Has claims_of requests c h in
      let v = map-Has (claim_of r.0.job) r.0.wants.items c r.2 in
      let s = split_Has wants w.0 w.1 in
      let f = fault-None p s.before s.after w.0 s.is in
      let mine : r.0.job ≡ job → Has (wants_of requests job) v.0 =
      λ e. Has-flat_map (λ (q : Request). q.wants.items) (requests_of requests job) r.0 v.0
      (Has-filter (λ (q : Request). q.job == job) requests r.0 (eq-eqb r.0.job job e) r.1) v.1 in
      let here : Ordered (claim_of r.0.job v.0) (claim_of job w.0) =
      record {
        alike = λ same. list_all-Has (λ u. are_alike u w.0) (wants_at requests w.0.key) v.0 f.alike
            (Has-filter (λ u. same_key u.key w.0.key) (all_wants requests) v.0 (eq-same_key v.0.key w.0.key same)
            (Has-flat_map (λ (q : Request). q.wants.items) requests r.0 v.0 r.1 v.1));
        apart = λ e. keys-apart v.0.key w.0.key (list_any-none (λ u. same_key u.key w.0.key) (wants_of requests job) v.0 f.had (mine e));
        rises = λ e free. above (wants_of requests job ++ s.before) v.0 w.0 f.low (Has-left (wants_of requests job) s.before v.0 (mine e)) free;
      } in
      subst (λ x. Ordered x d) v.2 (subst (λ y. Ordered (claim_of r.0.job v.0) y) w.2 here)

module _ (size : ℕ) (requests : List Request) (job : ℕ) (asking : Asking) (wants : ArrayVec Want) where
  -- a request that has passed arrives, or does not stay
  arrived : Passed size requests job wants.items → (notified : Bool)
      → Grows size job requests (with_arrival requests job asking notified wants)
  arrived p notified =
      arrives (request_of job asking notified wants) refl
      (record { by = refl; room = p.room; own = own_claims size requests job wants.items p; behind = claims_behind size requests job wants.items p })

  step-not_granted : Passed size requests job wants.items → (k : EnqueueKind)
      → Grows size job requests (not_granted requests (with_arrival requests job asking false wants) k).requests
  step-not_granted p Blocking = arrived p false
  step-not_granted p AtOnce = stays refl
  step-not_granted p Interrupt = arrived p false

  step-arrival : Passed size requests job wants.items → Grows size job requests (arrival requests job asking wants).requests
  step-arrival p =
      elim (granted (with_arrival requests job asking false wants) (length requests)) as (λ b.
      Grows size job requests
      (cond b (outcome (with_arrival requests job asking (is_interrupt asking.kind) wants) Granted)
      (not_granted requests (with_arrival requests job asking false wants) asking.kind)).requests) [
        | true ↦ arrived p (is_interrupt asking.kind)
        | false ↦ step-not_granted p asking.kind
      ]

  -- a request that is asked for arrives or leaves the list as it is
  pub step-enqueue : Grows size job requests (enqueue size requests job asking wants).requests
  step-enqueue = go (enqueue_refusal size requests job asking wants.items) refl
    where
      go : (o : Option Refusal) → enqueue_refusal size requests job asking wants.items ≡ o
          → Grows size job requests (unless_refused requests o (arrival requests job asking wants)).requests
      go (Some f) e = stays refl
      go None e = step-arrival (refusal-None size requests job wants.items asking e)
