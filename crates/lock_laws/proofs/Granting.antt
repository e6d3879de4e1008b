-- What holds of grants in a list whose claims are in order.
use Rattle.std.proofs.Common.{◌≡◌, ◌≤◌, ◌+◌, ◌∙◌, sym, ap, subst, ℕ, true, false, not, ◌==◌, ◌&&◌, List, [], ◌∷◌, ◌++◌}
use Rattle.std.proofs.Common.{take, sum_by, Option, Some, None, is_some, inl, inr, refl, arith}
use Rattle.std.specs.List.{list_all}
use Rattle.std.proofs.lemmas.Bool.{and_parts, and_from, both_ways, eqb-true, eq-eqb, not-true, false_from_ne_true}
use Rattle.lock_queue.specs.declared.key.Key.{Key}
use Rattle.lock_queue.specs.declared.request.Request.{Request}
use Rattle.lock_queue.specs.declared.want.Want.{Want}
use Rattle.lock_queue.specs.Enqueues.{same_pool_size}
use Rattle.lock_queue.specs.Keys.{same_key}
use Rattle.lock_queue.specs.Pools.{PoolShare}
use Rattle.lock_queue.specs.Queue.{wants_at, agree, amount_of, is_pooled, fits_beside, fits, granted_behind, is_granted, names, is_owner, chosen_behind, owners}
use Rattle.lock_laws.specs.Claims.{Claim, claim_of, claims_of, claims}
use Rattle.lock_laws.specs.Safe.{ExclusiveAlone, OwnersAgree, AllOrNone, FitsInFront, NoOvertaking}
use Rattle.lock_queue.proofs.Fitting.{eq-same_key, names-found, wants_at-append, Has-wants_at, overtaken}
use Rattle.lock_queue.proofs.Lists.{Has, Has-right, Has-map, Has-flat_map, Pairs, Pairs-both, Pairs-weaker, Sub, Sub-refl}
use Rattle.lock_queue.proofs.Lists.{Sub-none, Sub-append, list_all-Has, sum-append, sum-cons, list_any-Has}
use Rattle.lock_laws.proofs.Positions.{Split, chosen-Has, Has-chosen, chosen_none, chosen_behind-append}
use Rattle.lock_laws.proofs.Positions.{slice_get-Has, between, push-append, nil-append, Has-middle}
use Rattle.lock_laws.proofs.Steps.{Ordered}
use Rattle.lock_laws.proofs.Words.{Contains-Has, Has-Contains}

-- two wants of one key
pub record Kin (v w : Want) : Type 0 where
  pub level : v.level ≡ w.level
  pub sizes : same_pool_size v.pool w.pool ≡ true

-- two claims of one key are kin
abbrev KinIf : Claim → Claim → Type 0
KinIf c d = c.want.key ≡ d.want.key → Kin c.want d.want

same_pool_size-refl : (o : Option PoolShare) → same_pool_size o o ≡ true
same_pool_size-refl None = refl
same_pool_size-refl (Some a) = eq-eqb a.size a.size refl

same_pool_size-swap : (o p : Option PoolShare) → same_pool_size o p ≡ true → same_pool_size p o ≡ true
same_pool_size-swap None None h = refl
same_pool_size-swap (Some a) (Some b) h = eq-eqb b.size a.size (sym (eqb-true a.size b.size h))
same_pool_size-swap (Some a) None h = cc
same_pool_size-swap None (Some b) h = cc

kin_from : (c d : Claim) → Ordered c d → KinIf c d
kin_from c d o e =
    let parts = and_parts (c.want.level == d.want.level) (same_pool_size c.want.pool d.want.pool) (o.alike e) in
    record { level = eqb-true c.want.level d.want.level parts.0; sizes = parts.1 }

-- each want of a request is a claim
pub Has-claims : (rs : List Request) (r : Request) (w : Want) → Has rs r → Has r.wants.items w
    → Has (claims rs) (claim_of r.job w)
Has-claims rs r w h k = Has-flat_map claims_of rs r (claim_of r.job w) h (Has-map (claim_of r.job) r.wants.items w k)

-- present wants of one key are alike
pub kin : (rs : List Request) → Pairs Ordered (claims rs) → (r s : Request) (v w : Want) → Has rs r → Has rs s
    → Has r.wants.items v
    → Has s.wants.items w → v.key ≡ w.key → Kin v w
kin rs p r s v w hr hs hv hw e =
    Pairs-both KinIf (λ c e. record { level = refl; sizes = same_pool_size-refl c.want.pool })
    (λ c d k f. let back = k (sym f) in record { level = sym back.level; sizes = same_pool_size-swap c.want.pool d.want.pool back.sizes })
    (claims rs) (Pairs-weaker Ordered KinIf kin_from (claims rs) p) (claim_of r.job v) (claim_of s.job w) (Has-claims rs r v hr hv)
    (Has-claims rs s w hs hw) e

-- an element is part of a sum
Has-sum : {X : Type 0} (f : X → ℕ) (xs : List X) (x : X) → Has xs x → f x ≤ sum_by f xs
Has-sum f [] x h = absurd h
Has-sum f (y ∷ xs) x (inl e) = rw (sum-cons f y xs) (omega (arith, ap f e))
Has-sum f (y ∷ xs) x (inr h) = rw (sum-cons f y xs) (omega (arith, Has-sum f xs x h))

-- behind a request with a want that does not fit, no want of that key fits
pub fits-overtaken : (a m : List Request) (r : Request) (v w : Want) → Has r.wants.items v → Kin v w → v.key ≡ w.key
    → fits a v ≡ false
    → fits (a ++ r ∷ m) w ≡ false
fits-overtaken a m r v w h k e f =
    let here : Has (wants_at (r ∷ m) w.key) v = Has-wants_at [] m r w.key v h e in
    let split : wants_at (a ++ r ∷ m) w.key ≡ wants_at a w.key ++ wants_at (r ∷ m) w.key = wants_at-append a (r ∷ m) w.key in
    let sum : sum_by amount_of (wants_at a w.key) + amount_of v ≤ sum_by amount_of (wants_at (a ++ r ∷ m) w.key) =
    rw (split, sum-append amount_of (wants_at a w.key) (wants_at (r ∷ m) w.key)) (omega (arith, Has-sum amount_of (wants_at (r ∷ m) w.key) v here)) in
    let sub : Sub (wants_at a w.key) (wants_at (a ++ r ∷ m) w.key) =
    rw split (subst (λ l. Sub l (wants_at a w.key ++ wants_at (r ∷ m) w.key)) (nil-append (wants_at a w.key))
    (Sub-append (Sub-refl (wants_at a w.key)) (Sub-none (wants_at (r ∷ m) w.key)))) in
    overtaken (wants_at a w.key) (wants_at (a ++ r ∷ m) w.key) v w v.pool w.pool refl k.sizes sub
    (rw split (Has-right (wants_at a w.key) (wants_at (r ∷ m) w.key) v here)) sum
    (subst (λ key. fits_beside (wants_at a key) v v.pool ≡ false) e f)

-- what is not pooled has no pool, nor has its kin
no-pool : (o : Option PoolShare) → not (is_some o) ≡ true → o ≡ None
no-pool None h = refl
no-pool (Some a) h = cc

pub kin-no_pool : (o p : Option PoolShare) → same_pool_size o p ≡ true → o ≡ None → p ≡ None
kin-no_pool None None h e = refl
kin-no_pool None (Some b) h e = cc
kin-no_pool (Some a) p h e = cc

-- two wants that agree are both shared
pub both-shared : (u w : Want) → agree u w ≡ true → (u.shared ≡ true) × (w.shared ≡ true)
both-shared u w h = and_parts u.shared w.shared (and_parts (u.shared && w.shared) (u.group == w.group) h).0

-- a want without a pool that fits agrees with those before it
agrees : (a : List Request) (u w : Want) → Has (wants_at a w.key) u → w.pool ≡ None → fits a w ≡ true → agree u w ≡ true
agrees a u w h e f =
    let all : list_all (λ v. agree v w) (wants_at a w.key) ≡ true = subst (λ o. fits_beside (wants_at a w.key) w o ≡ true) e f in
    list_all-Has (λ v. agree v w) (wants_at a w.key) u all h

-- and those before it stand in the requests before
pub owners_agree : (rs : List Request) → OwnersAgree rs
owners_agree rs i j r s v w lt at_i at_j is has_v has_w e none =
    let hv : Has r.wants.items v = Contains-Has r.wants.items v has_v in
    let hw : Has s.wants.items w = Contains-Has s.wants.items w has_w in
    let m = between rs i j r s lt at_i at_j in
    let all : granted_behind (take j rs) s ≡ true = subst (λ o. is_granted (take j rs) o ≡ true) at_j is in
    let ok : fits (take j rs) w ≡ true = list_all-Has (fits (take j rs)) s.wants.items w all hw in
    let there : Has (wants_at (take i rs ++ r ∷ m.0) w.key) v = Has-wants_at (take i rs) m.0 r w.key v hv e in
    agrees (take j rs) v w (subst (λ l. Has (wants_at l w.key) v) (sym m.1) there) none ok

-- what an owner has of the key
pub record Owner (key : Key) (rs : List Request) (r : Request) : Type 0 where
  pub split : Split rs r
  pub want : Want
  pub has : Has r.wants.items want
  pub of : want.key ≡ key
  pub granted : granted_behind split.before r ≡ true

-- an owner of a key stands in the list, granted there, with a want of the key
pub owner : (key : Key) (rs : List Request) (r : Request) → Has (owners rs key) r → Owner key rs r
owner key rs r h =
    let c = chosen-Has (is_owner key) [] rs r h in
    let parts = and_parts (names r.wants.items key) (granted_behind c.split.before r) c.passes in
    let w = names-found r.wants.items key parts.0 in
    record { split = c.split; want = w.0; has = w.1; of = w.2; granted = parts.1 }

-- an exclusive owner: each other request with a want of the key disagrees with it, so none is granted before or behind it
pub alone : (rs : List Request) → Pairs Ordered (claims rs) → ExclusiveAlone rs
alone rs p key r w has_r has_w e ex =
    let o : Owner key rs r = owner key rs r (Contains-Has (owners rs key) r has_r) in
    let hw : Has r.wants.items w = Contains-Has r.wants.items w has_w in
    let parts = and_parts (not w.shared) (not (is_pooled w)) ex in
    let unshared : w.shared ≡ false = not-true w.shared parts.0 in
    let unpooled : w.pool ≡ None = no-pool w.pool parts.1 in
    let a : List Request = o.split.before in
    let b : List Request = o.split.after in
    let in_rs : Has rs r = subst (λ l. Has l r) (sym o.split.is) (Has-middle a b r) in
    let mine : fits a w ≡ true = list_all-Has (fits a) r.wants.items w o.granted hw in
    let before : chosen_behind (is_owner key) [] a ≡ [] =
    chosen_none (is_owner key) [] a (λ c d s is. false_from_ne_true (is_owner key c s) (λ t.
    let names_it = and_parts (names s.wants.items key) (granted_behind c s) t in
    let u = names-found s.wants.items key names_it.0 in
    let there : Has (wants_at a w.key) u.0 =
    rw is (Has-wants_at c d s w.key u.0 u.1 (u.2 ∙ sym e)) in
    both_ways w.shared unshared (both-shared u.0 w (agrees a u.0 w there unpooled mine)).1)) in
    let behind : chosen_behind (is_owner key) (a ++ r ∷ []) b ≡ [] =
    chosen_none (is_owner key) (a ++ r ∷ []) b (λ c d s is. false_from_ne_true (is_owner key ((a ++ r ∷ []) ++ c) s) (λ t.
    let names_it = and_parts (names s.wants.items key) (granted_behind ((a ++ r ∷ []) ++ c) s) t in
    let u = names-found s.wants.items key names_it.0 in
    let same : w.key ≡ u.0.key = e ∙ sym u.2 in
    let s_in : Has rs s = subst (λ l. Has l s) (sym o.split.is) (Has-right a (r ∷ b) s (inr (rw is (Has-middle c d s)))) in
    let none : u.0.pool ≡ None = kin-no_pool w.pool u.0.pool (kin rs p r s w u.0 in_rs s_in hw u.1 same).sizes unpooled in
    let ok : fits (a ++ r ∷ c) u.0 ≡ true =
    list_all-Has (fits (a ++ r ∷ c)) s.wants.items u.0 (subst (λ l. granted_behind l s ≡ true) (push-append a r c) names_it.1) u.1 in
    both_ways w.shared unshared (both-shared w u.0 (agrees (a ++ r ∷ c) w u.0 (Has-wants_at a c r u.0.key w hw same) none ok)).0)) in
    let whole : owners rs key ≡ chosen_behind (is_owner key) [] a ++ chosen_behind (is_owner key) a (r ∷ b) =
    ap (chosen_behind (is_owner key) []) o.split.is ∙ chosen_behind-append (is_owner key) [] a (r ∷ b) in
    let here : is_owner key a r ≡ true = and_from _ _ (list_any-Has (λ v. same_key v.key key) r.wants.items w (eq-same_key w.key key e) hw) o.granted in
    whole ∙ rw (before, here, behind) refl

-- a request is granted as a whole
pub all_or_none : (rs : List Request) → AllOrNone rs
all_or_none rs r key other has_r named =
    let o : Owner key rs r = owner key rs r (Contains-Has (owners rs key) r has_r) in
    let there : Has (owners (o.split.before ++ r ∷ o.split.after) other) r =
    Has-chosen (is_owner other) [] o.split.before o.split.after r (and_from _ _ named o.granted) in
    Has-Contains (owners rs other) r (subst (λ l. Has (owners l other) r) (sym o.split.is) there)

-- what keeps a want from fitting keeps each later one of its key from it
pub fits_in_front : (rs : List Request) → Pairs Ordered (claims rs) → FitsInFront rs
fits_in_front rs p i j r s v w lt at_i at_j has_v has_w e not_fit =
    let hv : Has r.wants.items v = Contains-Has r.wants.items v has_v in
    let hw : Has s.wants.items w = Contains-Has s.wants.items w has_w in
    let m = between rs i j r s lt at_i at_j in
    let k = kin rs p r s v w (slice_get-Has rs i r at_i) (slice_get-Has rs j s at_j) hv hw e in
    rw m.1 (fits-overtaken (take i rs) m.0 r v w hv k e not_fit)

-- so no later request with a want of the key is granted
pub no_overtaking : (rs : List Request) → Pairs Ordered (claims rs) → NoOvertaking rs
no_overtaking rs p i j r s w lt at_i at_j has_w not_fit named =
    let u = names-found s.wants.items w.key named in
    let not_either : fits (take j rs) u.0 ≡ false =
    fits_in_front rs p i j r s w u.0 lt at_i at_j has_w (Has-Contains s.wants.items u.0 u.1) (sym u.2) not_fit in
    subst (λ o. is_granted (take j rs) o ≡ false) (sym at_j)
    (false_from_ne_true (granted_behind (take j rs) s) (λ t.
    both_ways (fits (take j rs) u.0) not_either (list_all-Has (fits (take j rs)) s.wants.items u.0 t u.1)))
