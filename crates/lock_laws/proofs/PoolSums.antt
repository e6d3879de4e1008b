-- The owners' amounts of a key.
use Rattle.std.proofs.Common.{◌≡◌, ◌≢◌, ◌≤◌, ◌+◌, ◌∙◌, sym, ap, subst, ℕ, Bool, true, false, cond, List, [], ◌∷◌, ◌++◌}
use Rattle.std.proofs.Common.{map, filter, sum_by, Option, Some, None, inl, inr, refl, arith}
use Rattle.std.proofs.lemmas.Bool.{and_parts, eqb-true, leb-true, false_from_ne_true}
use Rattle.lock_queue.specs.declared.key.Key.{Key}
use Rattle.lock_queue.specs.declared.request.Request.{Request}
use Rattle.lock_queue.specs.declared.want.Want.{Want}
use Rattle.lock_queue.specs.Enqueues.{same_pool_size}
use Rattle.lock_queue.specs.Keys.{same_key}
use Rattle.lock_queue.specs.Pools.{PoolShare}
use Rattle.lock_queue.specs.Queue.{all_wants, wants_at, amount_of, amount_in, fits_beside, fits, granted_behind, names, is_owner, chosen_behind}
use Rattle.lock_laws.specs.Claims.{Claim, claim_of, claims_of, claims}
use Rattle.lock_laws.specs.Safe.{PoolsSuffice}
use Rattle.lock_queue.proofs.Fitting.{eq-same_key, same_key-eq, names-found, wants_at-append}
use Rattle.lock_laws.proofs.Granting.{Kin, kin}
use Rattle.lock_queue.proofs.Lists.{Has, Has-map, flat_map-Has, filter-Has, Pairs, Pairs-left, Pairs-right, list_all-Has, sum-append, sum-cons}
use Rattle.lock_laws.proofs.Positions.{nil-append}
use Rattle.lock_laws.proofs.Steps.{Ordered}
use Rattle.lock_laws.proofs.Words.{Contains-Has}

-- the claims of one request are in order
own-Pairs : (rs : List Request) (r : Request) → Has rs r → Pairs Ordered (claims rs) → Pairs Ordered (claims_of r)
own-Pairs [] r h p = absurd h
own-Pairs (x ∷ rs) r (inl e) p = subst (λ u. Pairs Ordered (claims_of u)) e (Pairs-left Ordered (claims_of x) (claims rs) p)
own-Pairs (x ∷ rs) r (inr h) p = own-Pairs rs r h (Pairs-right Ordered (claims_of x) (claims rs) p)

-- no later want of the job is of the key
none_named : (job : ℕ) (w : Want) (ws : List Want) (key : Key) → w.key ≡ key
    → ((d : Claim) → Has (map (claim_of job) ws) d → Ordered (claim_of job w) d)
    → filter (λ v. same_key v.key key) ws ≡ []
none_named job w [] key e f = refl
none_named job w (v ∷ ws) key e f =
    let other : w.key ≢ v.key = (f (claim_of job v) (inl refl)).apart refl in
    let here : same_key v.key key ≡ false =
    false_from_ne_true (same_key v.key key) (λ t. other (e ∙ sym (same_key-eq v.key key t))) in
    rw here (none_named job w ws key e (λ d h. f d (inr h)))

-- a request has one want of a key, at most
once : (job : ℕ) (ws : List Want) (w : Want) (key : Key) → Pairs Ordered (map (claim_of job) ws) → Has ws w
    → w.key ≡ key
    → filter (λ v. same_key v.key key) ws ≡ w ∷ []
once job [] w key p h e = absurd h
once job (v ∷ ws) w key p (inl same) e =
    let of : v.key ≡ key = ap (λ (u : Want). u.key) same ∙ e in
    let none : filter (λ v. same_key v.key key) ws ≡ [] = none_named job v ws key of p.0 in
    rw (eq-same_key v.key key of, none) (ap (λ u. u ∷ []) same)
once job (v ∷ ws) w key p (inr h) e =
    let other : v.key ≢ w.key = (p.0 (claim_of job w) (Has-map (claim_of job) ws w h)).apart refl in
    let here : same_key v.key key ≡ false =
    false_from_ne_true (same_key v.key key) (λ t. other (same_key-eq v.key key t ∙ sym e)) in
    rw here (once job ws w key p.1 h e)

-- what each request that names the key takes of its pool
record Takes (key : Key) (size : ℕ) (r : Request) : Type 0 where
  want : Want
  has : Has r.wants.items want
  of : want.key ≡ key
  share : PoolShare
  pool : want.pool ≡ Some share
  fit : share.size ≡ size
  only : sum_by amount_of (wants_at (r ∷ []) key) ≡ share.amount

-- the wants of a key and their amounts, with one more request in front or at the end
wants_at-cons : (r : Request) (rs : List Request) (key : Key)
    → wants_at (r ∷ rs) key ≡ wants_at (r ∷ []) key ++ wants_at rs key
wants_at-cons r rs key = wants_at-append (r ∷ []) rs key

sum-wants_at-cons : (r : Request) (rs : List Request) (key : Key)
    → sum_by amount_of (wants_at (r ∷ rs) key) ≡ sum_by amount_of (wants_at (r ∷ []) key) + sum_by amount_of (wants_at rs key)
sum-wants_at-cons r rs key =
    ap (sum_by amount_of) (wants_at-cons r rs key) ∙ sum-append amount_of (wants_at (r ∷ []) key) (wants_at rs key)

sum-wants_at-push : (e : List Request) (r : Request) (key : Key)
    → sum_by amount_of (wants_at (e ++ r ∷ []) key) ≡ sum_by amount_of (wants_at e key) + sum_by amount_of (wants_at (r ∷ []) key)
sum-wants_at-push e r key =
    ap (sum_by amount_of) (wants_at-append e (r ∷ []) key) ∙ sum-append amount_of (wants_at e key) (wants_at (r ∷ []) key)

-- a granted request finds room for its amount
room : (e : List Request) (key : Key) (size : ℕ) (r : Request) → Takes key size r → granted_behind e r ≡ true
    → sum_by amount_of (wants_at e key) + sum_by amount_of (wants_at (r ∷ []) key) ≤ size
room e key size r t g =
    let fit : fits e t.want ≡ true = list_all-Has (fits e) r.wants.items t.want g t.has in
    let pooled : fits_beside (wants_at e t.want.key) t.want (Some t.share) ≡ true =
    subst (λ o. fits_beside (wants_at e t.want.key) t.want o ≡ true) t.pool fit in
    let sum : sum_by amount_of (wants_at e t.want.key) + t.share.amount ≤ t.share.size = leb-true _ _ pooled in
    let here : sum_by amount_of (wants_at e t.want.key) ≡ sum_by amount_of (wants_at e key) = ap (λ k. sum_by amount_of (wants_at e k)) t.of in
    omega (arith, sum, here, t.only, t.fit)

-- the owners' amounts, of which n are those of the owners so far
amounts-within : (key : Key) (size : ℕ) (e rs : List Request) (n : ℕ) → n ≤ sum_by amount_of (wants_at e key) → n ≤ size
    → ((r : Request) → Has rs r → names r.wants.items key ≡ true → Takes key size r)
    → n + sum_by amount_of (wants_at (chosen_behind (is_owner key) e rs) key) ≤ size
amounts-within key size e [] n le fit takes = omega (arith, fit)
amounts-within key size e (r ∷ rs) n le fit takes =
    go (is_owner key e r) refl
    (λ m below within. amounts-within key size (e ++ r ∷ []) rs m below within (λ q h. takes q (inr h)))
  where
    rest : List Request
    rest = chosen_behind (is_owner key) (e ++ r ∷ []) rs

    go : (b : Bool) → is_owner key e r ≡ b
        → ((m : ℕ) → m ≤ sum_by amount_of (wants_at (e ++ r ∷ []) key) → m ≤ size → m + sum_by amount_of (wants_at rest key) ≤ size)
        → n + sum_by amount_of (wants_at (cond b (r ∷ rest) rest) key) ≤ size
    go true t later =
        let parts = and_parts (names r.wants.items key) (granted_behind e r) t in
        let here = room e key size r (takes r (inl refl) parts.0) parts.1 in
        let mine : ℕ = sum_by amount_of (wants_at (r ∷ []) key) in
        let pushed = sum-wants_at-push e r key in
        let cons = sum-wants_at-cons r rest key in
        let all = later (n + mine) (omega (arith, pushed, le)) (omega (arith, here, le)) in
        omega (arith, all, cons)
    go false f later =
        let pushed = sum-wants_at-push e r key in
        later n (omega (arith, pushed, le)) fit

-- kin of a pooled want is of a pool of that size
pool-of : (o p : Option PoolShare) (a : PoolShare) → same_pool_size o p ≡ true → o ≡ Some a
    → (b : PoolShare) × (p ≡ Some b) × (b.size ≡ a.size)
pool-of (Some x) (Some y) a h e = (y, refl, let s : x ≡ a = cc in sym (eqb-true x.size y.size h) ∙ ap (λ (u : PoolShare). u.size) s)
pool-of (Some x) None a h e = cc
pool-of None p a h e = cc

-- so the owners never take more than there is
pub pools_suffice : (rs : List Request) → Pairs Ordered (claims rs) → PoolsSuffice rs
pools_suffice rs p key w share has_w pool =
    let at : Has (wants_at rs key) w = Contains-Has (wants_at rs key) w has_w in
    let passed = filter-Has (λ v. same_key v.key key) (all_wants rs) w at in
    let of : w.key ≡ key = same_key-eq w.key key passed.0 in
    let s = flat_map-Has (λ (q : Request). q.wants.items) rs w passed.1 in
    let takes : (r : Request) → Has rs r → names r.wants.items key ≡ true → Takes key share.size r =
    λ r h named.
    let u = names-found r.wants.items key named in
    let k : Kin w u.0 = kin rs p s.0 r w u.0 s.1 h s.2 u.1 (of ∙ sym u.2) in
    let q = pool-of w.pool u.0.pool share k.sizes pool in
    let single : filter (λ v. same_key v.key key) r.wants.items ≡ u.0 ∷ [] = once r.job r.wants.items u.0 key (own-Pairs rs r h p) u.1 u.2 in
    record {
      want = u.0;
      has = u.1;
      of = u.2;
      share = q.0;
      pool = q.1;
      fit = q.2;
      only = ap (λ l. sum_by amount_of (filter (λ v. same_key v.key key) l)) (nil-append r.wants.items)
          ∙ ap (sum_by amount_of) single ∙ sum-cons amount_of u.0 [] ∙ rw (ap amount_in q.1) (omega arith);
    } in
    let all = amounts-within key share.size [] rs 0 (omega arith) (omega arith) takes in omega (arith, all)
