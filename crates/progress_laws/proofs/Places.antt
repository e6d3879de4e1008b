-- What stands in front of a job's request.
use Rattle.std.proofs.Common.{◌≡◌, ◌∙◌, sym, ap, subst, ℕ, zero, suc, Bool, true, false, ◌==◌, ◌||◌, cond, refl, List, [], ◌∷◌, ◌++◌, inl, inr}
use Rattle.std.specs.List.{list_any}
use Rattle.std.proofs.lemmas.Bool.{both_ways, and_parts, and_from, eqb-true, eq-eqb}
use Rattle.lock_queue.specs.Keys.{same_key}
use Rattle.lock_queue.specs.declared.key.Key.{Key}
use Rattle.lock_queue.specs.declared.request.Request.{Request}
use Rattle.lock_queue.specs.declared.want.Want.{Want}
use Rattle.lock_queue.specs.Queue.{names}
use Rattle.lock_queue.proofs.Fitting.{names-found}
use Rattle.lock_queue.proofs.Lists.{Pairs, Pairs-across, Pairs-right, Has-map, Has-flat_map, list_any-found}
use Rattle.lock_laws.specs.Claims.{claim_of, claims_of, claims, AreApart}
use Rattle.lock_laws.specs.Safe.{Safe as SafeRequests}
use Rattle.lock_laws.proofs.Words.{AllPairs-Pairs}
use Rattle.machine.specs.declared.event.Event.{Event}
use Rattle.machine.specs.Along.{Always}
use Rattle.machine.specs.Machine.{S, happens}
use Rattle.machine.specs.Safe.{Safe}
use Rattle.monitor_laws.proofs.Safety.{safe-happens}
use Rattle.progress_laws.specs.Arrivals.{LeaveOrComeOver, is_wanted_by, front_of, FrontThinsOver, FrontStaysOver, FrontThinsAlong}
use Rattle.progress_laws.specs.Fronts.{IsSame, IsSameButSharing, Remains, wants_key, in_front}
use Rattle.progress_laws.specs.Thinning.{Thinned}
use Rattle.progress_laws.specs.Thinning.Thinned.{none, stays, leaves}
use Rattle.progress_laws.proofs.Arrivals.{in_front_over}
use Rattle.progress_laws.proofs.Fronts.{shared-then, remains-then, remains-shared, stay-same}
use Rattle.progress_laws.proofs.Thinning.{thin-then}

-- at most one passes
abbrev pub AtMostOne : (Request → Bool) → List Request → Type 0
AtMostOne test [] = Unit {0}
AtMostOne test (r ∷ later) = (test r ≡ true → list_any test later ≡ false) × AtMostOne test later

pub false-of : (b : Bool) → (b ≡ true → ⊥) → b ≡ false
false-of true h = absurd (h refl)
false-of false h = refl

-- no job wants a key twice
one-apart : (job : ℕ) (key : Key) (requests : List Request) → Pairs AreApart (claims requests) → AtMostOne (wants_key job key) requests
one-apart job key [] h = tt
one-apart job key (r ∷ later) h = (
  λ mine. false-of (list_any (wants_key job key) later) (λ other.
      let p = and_parts (r.job == job) (names r.wants.items key) mine in
      let v = names-found r.wants.items key p.1 in
      let s = list_any-found (wants_key job key) later other in
      let q = and_parts (s.0.job == job) (names s.0.wants.items key) s.2 in
      let w = names-found s.0.wants.items key q.1 in
      Pairs-across AreApart (claims_of r) (claims later) h (claim_of r.job v.0) (claim_of s.0.job w.0)
      (Has-map (claim_of r.job) r.wants.items v.0 v.1)
      (Has-flat_map claims_of later s.0 (claim_of s.0.job w.0) s.1 (Has-map (claim_of s.0.job) s.0.wants.items w.0 w.1))
      (eqb-true r.job job p.0 ∙ sym (eqb-true s.0.job job q.0)) (v.2 ∙ sym w.2)),
  one-apart job key later (Pairs-right AreApart (claims_of r) (claims later) h),
)

pub one-safe : {size : ℕ} (job : ℕ) (key : Key) (requests : List Request) → SafeRequests size requests → AtMostOne (wants_key job key) requests
one-safe job key requests h = one-apart job key requests (AllPairs-Pairs AreApart (claims requests) h.apart)

-- what remains wants no other keys
or-more : (a b c : Bool) → (b ≡ true → c ≡ true) → (a || b) ≡ true → (a || c) ≡ true
or-more true b c f h = refl
or-more false b c f h = f h

pub or-behind : (a b : Bool) → b ≡ true → (a || b) ≡ true
or-behind true b h = refl
or-behind false b h = h

pub names-remain : (key : Key) {vs ws : List Want} → Thinned IsSameButSharing vs ws → names ws key ≡ true → names vs key ≡ true
names-remain key none h = h
names-remain key (leaves {x = v} {xs = vs} t) h = or-behind (same_key v.key key) (names vs key) (names-remain key t h)
names-remain key (stays {x = v} {y = w} {xs = vs} {ys = ws} p t) h =
    or-more (same_key v.key key) (names ws key) (names vs key) (names-remain key t)
    (subst (λ k. (same_key k key || names ws key) ≡ true) (ap (λ (u : Want). u.key) p) h)

pub wants-remain : (job : ℕ) (key : Key) (r s : Request) → Remains IsSameButSharing r s → wants_key job key s ≡ true → wants_key job key r ≡ true
wants-remain job key r s h mine =
    let p = and_parts (s.job == job) (names s.wants.items key) mine in
    and_from (r.job == job) (names r.wants.items key) (eq-eqb r.job job (sym h.job ∙ eqb-true s.job job p.0))
    (names-remain key h.wants p.1)

-- whoever is left was there
either-way : (a b c : Bool) (d : Bool) → (c ≡ true → a ≡ true) → (d ≡ true → b ≡ true) → (c || d) ≡ true → (a || b) ≡ true
either-way a b true d f g h = rw (f refl) refl
either-way a b false d f g h = or-behind a b (g h)

module _ (P : Request → Request → Type 0) (test : Request → Bool) (back : (r s : Request) → P r s → test s ≡ true → test r ≡ true) where
  pub any-remains : {xs ys : List Request} → Thinned P xs ys → list_any test ys ≡ true → list_any test xs ≡ true
  any-remains none h = h
  any-remains (leaves {x = x} {xs = xs} t) h = or-behind (test x) (list_any test xs) (any-remains t h)
  any-remains (stays {x = x} {y = y} {xs = xs} {ys = ys} p t) h =
      either-way (test x) (list_any test xs) (test y) (list_any test ys) (back x y p) (any-remains t) h

  -- what stands in front grows thinner, where one that passes is left
  front-leaves : (x : Request) (xs ys : List Request) (b : Bool) → test x ≡ b → (test x ≡ true → list_any test xs ≡ false)
      → list_any test xs ≡ true → Thinned P (in_front test xs) (in_front test ys)
      → Thinned P (cond b [] (x ∷ in_front test xs)) (in_front test ys)
  front-leaves x xs ys true e one h t = absurd (both_ways (list_any test xs) (one e) h)
  front-leaves x xs ys false e one h t = leaves t

  front-stays : (x y : Request) (xs ys : List Request) (b c : Bool) → test x ≡ b → test y ≡ c → P x y → (test x ≡ true → list_any test xs ≡ false)
      → (list_any test ys ≡ true → list_any test xs ≡ true) → (c || list_any test ys) ≡ true
      → (list_any test ys ≡ true → Thinned P (in_front test xs) (in_front test ys))
      → Thinned P (cond b [] (x ∷ in_front test xs)) (cond c [] (y ∷ in_front test ys))
  front-stays x y xs ys true true d e p one rest h t = none
  front-stays x y xs ys true false d e p one rest h t = absurd (both_ways (list_any test xs) (one d) (rest h))
  front-stays x y xs ys false true d e p one rest h t = absurd (both_ways (test x) d (back x y p e))
  front-stays x y xs ys false false d e p one rest h t = stays p (t h)

  pub front-thins : {xs ys : List Request} → Thinned P xs ys → AtMostOne test xs → list_any test ys ≡ true
      → Thinned P (in_front test xs) (in_front test ys)
  front-thins none one h = none
  front-thins (leaves {x = x} {xs = xs} {ys = ys} t) one h =
      front-leaves x xs ys (test x) refl one.0 (any-remains t h) (front-thins t one.1 h)
  front-thins (stays {x = x} {y = y} {xs = xs} {ys = ys} p t) one h =
      front-stays x y xs ys (test x) (test y) refl refl p one.0 (any-remains t) h (front-thins t one.1)

-- what stands in front does not see what comes behind
front-behind : (test : Request → Bool) (xs more : List Request) → list_any test xs ≡ true → in_front test (xs ++ more) ≡ in_front test xs
front-behind test [] more h = absurd (both_ways false refl h)
front-behind test (x ∷ xs) more h = go (test x) (front-behind test xs more) h
  where
    go : (b : Bool) → (list_any test xs ≡ true → in_front test (xs ++ more) ≡ in_front test xs) → (b || list_any test xs) ≡ true
        → cond b [] (x ∷ in_front test (xs ++ more)) ≡ cond b [] (x ∷ in_front test xs)
    go true rest h = refl
    go false rest h = ap (λ l. x ∷ l) (rest h)

remain-then : (r s t : Request) → Remains IsSameButSharing r s → Remains IsSameButSharing s t → Remains IsSameButSharing r t
remain-then = remains-then IsSameButSharing IsSameButSharing IsSameButSharing shared-then

front-over : {size : ℕ} (job : ℕ) (key : Key) (s : S) (e : Event) → SafeRequests size s.world.requests → LeaveOrComeOver IsSameButSharing s e
    → is_wanted_by job key s ≡ true → is_wanted_by job key (happens s e).state ≡ true
    → Thinned (Remains IsSameButSharing) (front_of job key s) (front_of job key (happens s e).state)
front-over job key s e safe (inl t) was is =
    front-thins (Remains IsSameButSharing) (wants_key job key) (wants-remain job key) t (one-safe job key s.world.requests safe) is
front-over job key s e safe (inr h) was is =
    subst (λ l. Thinned (Remains IsSameButSharing) (front_of job key s) l)
    (sym (ap (λ l. in_front (wants_key job key) l) h.2 ∙ front-behind (wants_key job key) s.world.requests (h.0 ∷ []) was))
    (stay-same IsSameButSharing (λ w. refl) (front_of job key s))

pub front_thins_over : (s : S) (e : Event) → Safe s → FrontThinsOver s e
front_thins_over s e safe job key was is = front-over job key s e safe.queued.safe (in_front_over s e).any was is

-- the same where no wants are changed
same-remains : (job : ℕ) (key : Key) (r s : Request) → Remains IsSame r s → wants_key job key s ≡ true → wants_key job key r ≡ true
same-remains job key r s h mine = wants-remain job key r s (remains-shared r s h) mine

same-over : {size : ℕ} (job : ℕ) (key : Key) (s : S) (e : Event) → SafeRequests size s.world.requests → LeaveOrComeOver IsSame s e
    → is_wanted_by job key s ≡ true → is_wanted_by job key (happens s e).state ≡ true
    → Thinned (Remains IsSame) (front_of job key s) (front_of job key (happens s e).state)
same-over job key s e safe (inl t) was is =
    front-thins (Remains IsSame) (wants_key job key) (same-remains job key) t (one-safe job key s.world.requests safe) is
same-over job key s e safe (inr h) was is =
    subst (λ l. Thinned (Remains IsSame) (front_of job key s) l)
    (sym (ap (λ l. in_front (wants_key job key) l) h.2 ∙ front-behind (wants_key job key) s.world.requests (h.0 ∷ []) was))
    (stay-same IsSame (λ w. refl) (front_of job key s))

pub front_stays_over : (s : S) (e : Event) → Safe s → FrontStaysOver s e
front_stays_over s e safe job key bare was is = same-over job key s e safe.queued.safe ((in_front_over s e).other bare) was is

pub front_thins_along : (s : S) (es : List Event) → Safe s → FrontThinsAlong s es
front_thins_along s [] safe job key all = stay-same IsSameButSharing (λ w. refl) (front_of job key s)
front_thins_along s (e ∷ es) safe job key all =
    thin-then (Remains IsSameButSharing) (Remains IsSameButSharing) (Remains IsSameButSharing) remain-then
    (front_thins_over s e safe job key (all zero) (always-first es (happens s e).state (λ k. all (suc k))))
    (front_thins_along (happens s e).state es (safe-happens s e safe) job key (λ k. all (suc k)))
  where
    always-first : (es : List Event) (t : S) → Always (λ u. is_wanted_by job key u ≡ true) t es → is_wanted_by job key t ≡ true
    always-first [] t all = all zero
    always-first (e ∷ es) t all = all zero
