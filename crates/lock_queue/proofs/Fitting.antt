-- Which wants fit, behind more, fewer or the same earlier wants.
use Rattle.std.proofs.Common.{◌≡◌, ◌≢◌, ◌≤◌, ◌<◌, ◌+◌, ◌∙◌, sym, ap, subst, ◌&&◌, ◌==◌, true, false, List, ◌∷◌}
use Rattle.std.proofs.Common.{◌++◌, filter, sum_by, Option, Some, None, inl, refl, arith}
use Rattle.std.proofs.lemmas.Bool.{and_parts, and_from, both_ways, eqb-true, eq-eqb, leb-true, leb-false, le-leb, lt-leb, false_from_ne_true}
use Rattle.std.proofs.lemmas.List.Elements.{filter-append}
use Rattle.std.proofs.lemmas.Slice.Eq.{bytes_eq-Decides}
use Rattle.lock_queue.specs.declared.key.Scope.{Scope}
use Rattle.lock_queue.specs.declared.key.Scope.TheVariants.{All, Job}
use Rattle.lock_queue.specs.declared.name.Name.{Name}
use Rattle.lock_queue.specs.declared.name.Name.TheVariants.{Text, Code}
use Rattle.lock_queue.specs.declared.key.Key.{Key}
use Rattle.lock_queue.specs.declared.request.Request.{Request}
use Rattle.lock_queue.specs.declared.want.Want.{Want}
use Rattle.lock_queue.specs.Enqueues.{same_pool_size}
use Rattle.lock_queue.specs.Keys.{same_scope, same_name, same_key}
use Rattle.lock_queue.specs.Pools.{PoolShare}
use Rattle.lock_queue.specs.Queue.{all_wants, wants_at, agree, amount_of, amount_in, fits_beside, fits, granted_behind, names}
use Rattle.lock_queue.proofs.Lists.{Has, Has-right, Sub, Sub-Has, Sub-all, Sub-sum, Sub-filters, Has-filter, Has-flat_map, list_all-Has}
use Rattle.lock_queue.proofs.Lists.{list_all-each, list_all-fails, list_any-found, list_any-Has, flat_map-append}

-- keys that the test takes for one are one
same_scope-eq : (a b : Scope) → same_scope a b ≡ true → a ≡ b
same_scope-eq All All h = refl
same_scope-eq (Job a) (Job b) h = ap Job (eqb-true a b h)
same_scope-eq All (Job b) h = cc
same_scope-eq (Job a) All h = cc

same_name-eq : (a b : Name) → same_name a b ≡ true → a ≡ b
same_name-eq (Text a) (Text b) h = ap Text ((bytes_eq-Decides a b).0 h)
same_name-eq (Code a) (Code b) h = ap Code (eqb-true a b h)
same_name-eq (Text a) (Code b) h = cc
same_name-eq (Code a) (Text b) h = cc

pub same_key-eq : (a b : Key) → same_key a b ≡ true → a ≡ b
same_key-eq a b h =
    let parts = and_parts (same_scope a.scope b.scope) (same_name a.name b.name) h in
    let s = same_scope-eq a.scope b.scope parts.0 in
    let n = same_name-eq a.name b.name parts.1 in
    λ i. record { scope = s i; name = n i }

-- and one key passes the test
same_scope-refl : (a : Scope) → same_scope a a ≡ true
same_scope-refl All = refl
same_scope-refl (Job a) = eq-eqb a a refl

same_name-refl : (a : Name) → same_name a a ≡ true
same_name-refl (Text a) = (bytes_eq-Decides a a).1 refl
same_name-refl (Code a) = eq-eqb a a refl

pub same_key-refl : (a : Key) → same_key a a ≡ true
same_key-refl a = and_from _ _ (same_scope-refl a.scope) (same_name-refl a.name)

pub eq-same_key : (a b : Key) → a ≡ b → same_key a b ≡ true
eq-same_key a b e = subst (λ k. same_key a k ≡ true) e (same_key-refl a)

pub same_key-swap : (a b : Key) → same_key a b ≡ true → same_key b a ≡ true
same_key-swap a b h = eq-same_key b a (sym (same_key-eq a b h))

-- keys that the test tells apart are two
pub keys-apart : (a b : Key) → same_key a b ≡ false → a ≢ b
keys-apart a b h e = both_ways (same_key a b) h (eq-same_key a b e)

-- a want that is named
pub names-found : (ws : List Want) (k : Key) → names ws k ≡ true → (w : Want) × Has ws w × (w.key ≡ k)
names-found ws k h =
    let found = list_any-found (λ w. same_key w.key k) ws h in (found.0, found.1, same_key-eq found.0.key k found.2)

pub names-Has : (ws : List Want) (k : Key) (w : Want) → Has ws w → w.key ≡ k → names ws k ≡ true
names-Has ws k w h e = list_any-Has (λ w. same_key w.key k) ws w (eq-same_key w.key k e) h

-- the wants of a key, in two lists end to end
pub wants_at-append : (a b : List Request) (k : Key) → wants_at (a ++ b) k ≡ wants_at a k ++ wants_at b k
wants_at-append a b k =
    ap (filter (λ w. same_key w.key k)) (flat_map-append (λ (r : Request). r.wants.items) a b)
    ∙ filter-append (λ w. same_key w.key k) (all_wants a) (all_wants b)

-- a want of an earlier request is among the wants before
pub Has-wants_at : (a b : List Request) (r : Request) (k : Key) (w : Want) → Has r.wants.items w → w.key ≡ k
    → Has (wants_at (a ++ r ∷ b) k) w
Has-wants_at a b r k w h e =
    Has-filter (λ v. same_key v.key k) (all_wants (a ++ r ∷ b)) w (eq-same_key w.key k e)
    (Has-flat_map (λ (q : Request). q.wants.items) (a ++ r ∷ b) r w (Has-right a (r ∷ b) r (inl refl)) h)

-- beside fewer wants a want still fits
pub fits_beside-fewer : (xs ys : List Want) (w : Want) (o : Option PoolShare) → Sub xs ys → fits_beside ys w o ≡ true
    → fits_beside xs w o ≡ true
fits_beside-fewer xs ys w None s t = Sub-all (λ v. agree v w) s t
fits_beside-fewer xs ys w (Some share) s t =
    le-leb _ _ (omega (arith, Sub-sum amount_of s, leb-true _ _ t))

-- behind fewer wants a want still fits
pub fits-fewer : (a b : List Request) (w : Want) → Sub (all_wants a) (all_wants b) → fits b w ≡ true → fits a w ≡ true
fits-fewer a b w s t = fits_beside-fewer (wants_at a w.key) (wants_at b w.key) w w.pool (Sub-filters (λ v. same_key v.key w.key) s) t

-- a request with fewer wants behind fewer wants is still granted
pub granted_behind-fewer : (a b : List Request) (q r : Request) → Sub (all_wants a) (all_wants b)
    → Sub q.wants.items r.wants.items
    → granted_behind b r ≡ true → granted_behind a q ≡ true
granted_behind-fewer a b q r s f t =
    list_all-each (fits a) q.wants.items
    (λ w h. fits-fewer a b w s (list_all-Has (fits b) r.wants.items w t (Sub-Has w f h)))

-- wants that agree with one agree with each other
pub agree-joined : (u v w : Want) → agree u w ≡ true → agree v w ≡ true → agree u v ≡ true
agree-joined u v w a b =
    let p = and_parts (u.shared && w.shared) (u.group == w.group) a in
    let q = and_parts (v.shared && w.shared) (v.group == w.group) b in
    and_from (u.shared && v.shared) (u.group == v.group)
    (and_from u.shared v.shared (and_parts u.shared w.shared p.0).0 (and_parts v.shared w.shared q.0).0)
    (eq-eqb u.group v.group (eqb-true u.group w.group p.1 ∙ sym (eqb-true v.group w.group q.1)))

-- where a want does not fit, no later one of its key does
pub overtaken : (xs ys : List Want) (v w : Want) (o p : Option PoolShare) → v.pool ≡ o → same_pool_size o p ≡ true
    → Sub xs ys → Has ys v
    → (sum_by amount_of xs + amount_of v ≤ sum_by amount_of ys) → fits_beside xs v o ≡ false
    → fits_beside ys w p ≡ false
overtaken xs ys v w None None e same s h sum f =
    let bad = list_all-fails (λ u. agree u v) xs f in
    false_from_ne_true _ (λ t.
    let first = list_all-Has (λ u. agree u w) ys bad.0 t (Sub-Has bad.0 s bad.1) in
    let second = list_all-Has (λ u. agree u w) ys v t h in
    both_ways (agree bad.0 v) bad.2 (agree-joined bad.0 v w first second))
overtaken xs ys v w (Some a) (Some b) e same s h sum f =
    let more : a.size < sum_by amount_of xs + a.amount = leb-false _ _ f in
    let size : a.size ≡ b.size = eqb-true a.size b.size same in
    let mine : amount_of v ≡ a.amount = ap amount_in e in
    lt-leb _ _ (omega (arith, more, size, mine, sum))
overtaken xs ys v w None (Some b) e same s h sum f = cc
overtaken xs ys v w (Some a) None e same s h sum f = cc
