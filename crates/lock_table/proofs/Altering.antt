-- Wants that are changed, and which changes take a grant.
use Rattle.std.proofs.Common.{◌≡◌, ◌∙◌, sym, ap, subst, ℕ, zero, suc, Bool, true, false, ◌==◌, not, cond, arith, List, [], ◌∷◌, map, filter, set}
use Rattle.std.proofs.Common.{slice_get, Some, inl, inr, refl, ◌≢◌, ◌&&◌, ◌||◌, ◌++◌, length, take, drop, nat_lt, Option, None, ◌<◌, get_or, is_some}
use Rattle.std.specs.List.{list_all, list_any, All, position_or_len, find}
use Rattle.std.proofs.lemmas.Bool.{both_ways, false_from_ne_true, or_parts, and_parts, eq-eqb, not-true, or_left, or_right, eqb-true}
use Rattle.lock_queue.specs.declared.key.Key.{Key}
use Rattle.lock_queue.specs.declared.request.Request.{Request}
use Rattle.lock_queue.specs.declared.want.Want.{Want}
use Rattle.lock_queue.specs.Changes.{changed, changed_want, some_lost, with_changes}
use Rattle.lock_queue.specs.Dequeues.{with_wants}
use Rattle.lock_queue.specs.Keys.{same_key}
use Rattle.lock_queue.specs.Queue.{names, all_wants, fits, granted_behind, wants_at, is_pooled, requests_of}
use Rattle.lock_queue.specs.WellFormed.{are_apart, shares_rightly}
use Rattle.lock_queue.proofs.Fitting.{eq-same_key, same_key-eq, same_key-swap, names-Has, names-found}
use Rattle.lock_queue.proofs.Lists.{Has, list_all-Has, Pairs-across, list_all-each, list_any-Has, list_any-found, list_any-none, Has-filter, Has-flat_map, Has-map}
use Rattle.key_queues.specs.Tables.{own_wants, AreDistinct, is_there, slots_at, CountsAt, is_counted}
use Rattle.lock_table.specs.Changing.{changed_by, changed_once, fitting_then, is_lost_by, IsUnpooledAt, SparesPools, loses_by, want_then}
use Rattle.std.proofs.lemmas.List.{map-id, map-append, take-append-drop, get_or_read}
use Rattle.key_queues.proofs.Lists.{found_Has}
use Rattle.std.proofs.lemmas.List.Elements.{filter-append}
use Rattle.std.proofs.lemmas.List.Folds.{list_any-append, list_all-append}
use Rattle.key_queues.specs.Beginnings.{Alike, fitting, is_share_of}
use Rattle.key_queues.specs.States.{State, IsTable, FlagsAll, IsKept, IsUsed, InUseHaveRequests, IsQueued, all_count, in_use}
use Rattle.key_queues.proofs.Beginnings.{fits_split, alike-Has}
use Rattle.key_queues.proofs.Counted.{as_many, counted_split, filter_around, none_kept, not_kept, want_of, wants_by_slots}
use Rattle.key_queues.proofs.Keeping.{Has-there, flags_tell_grants, once_pairs, split_there}
use Rattle.key_queues.proofs.Marks.{marks_lose}
use Rattle.key_queues.proofs.Moves.{wants_same}
use Rattle.key_queues.proofs.Fronts.{list_all_same, queue_around, one_of_key}
use Rattle.key_queues.proofs.Using.{kept_there, queue_of_want, there_kept, there_at, want_at_queue}
use Rattle.key_queues.proofs.Orders.{stands_filter}
use Rattle.lock_queue.specs.Pools.{PoolShare}
use Rattle.key_queues.specs.declared.lock.Lock.{Lock}
use Rattle.key_queues.specs.Locks.{lock_at, unused_lock}
use Rattle.key_queues.specs.LockUse.{in_use_for}
use Rattle.key_queues.proofs.Finding.{in_use_parts, in_use_within, find_passes}
use Rattle.key_queues.specs.Stores.{Stored, entry_at}
use Rattle.lock_table.specs.TableStates.{state_of, queued_want}
use Rattle.lock_table.specs.Reads.{request_at}
use Rattle.lock_table.specs.Whole.{AreRight, requests_in}
use Rattle.key_queues.proofs.LockUseLaws.{used_in_use}
use Rattle.lock_table.proofs.Telling.{find_there}

-- ---- wants that are changed, and the wants of a key among them: one want

pub changed_key : (cs : List Want) (w : Want) → (changed_want cs w).key ≡ w.key
changed_key [] w = refl
changed_key (c ∷ cs) w = grind (arith, changed_key cs w)

pub changed_pool : (cs : List Want) (w : Want) → (changed_want cs w).pool ≡ w.pool
changed_pool [] w = refl
changed_pool (c ∷ cs) w = grind (arith, changed_pool cs w)

-- a want of a key that is not named stays
pub unnamed_stays : (cs : List Want) (w : Want) (key : Key) → w.key ≡ key → names cs key ≡ false → changed_want cs w ≡ w
unnamed_stays [] w key e f = refl
unnamed_stays (c ∷ cs) w key e f =
    let parts = or_parts (same_key c.key key) (names cs key) f in
    let other : same_key w.key c.key ≡ false =
    false_from_ne_true (same_key w.key c.key)
    (λ t. both_ways (same_key c.key key) parts.0 (subst (λ k. same_key c.key k ≡ true) e (same_key-swap w.key c.key t))) in
    rw other (unnamed_stays cs w key e parts.1)

-- a want of a change's key
pub named_once : (c w : Want) → w.key ≡ c.key → changed_want (c ∷ []) w ≡ changed_by c w
named_once c w e = rw (eq-same_key w.key c.key e) refl

pub first_named : (cs : List Want) (c w : Want) → are_apart cs ≡ true → Has cs c → w.key ≡ c.key → changed_want cs w ≡ changed_by c w
first_named [] c w apart h e = absurd h
first_named (d ∷ cs) c w apart (inl same) e = grind (arith, same, eq-same_key w.key d.key)
first_named (d ∷ cs) c w apart (inr h) e =
    grind (arith, list_all-Has (λ v. not (same_key d.key v.key)) cs c, same_key-eq w.key d.key, first_named cs c w, h)

-- the first change, and then the others
pub changed_first : (c : Want) (later : List Want) (w : Want) → names later c.key ≡ false → changed_want later (changed_want (c ∷ []) w) ≡ changed_want (c ∷ later) w
changed_first c later w f = grind (arith, unnamed_stays later (changed_by c w) c.key, same_key-eq w.key c.key)

-- ---- the wants of a request

pub names_changed : (cs ws : List Want) (key : Key) → names (map (changed_want cs) ws) key ≡ names ws key
names_changed cs [] key = refl
names_changed cs (w ∷ ws) key = grind (arith, changed_key cs w, names_changed cs ws key)

-- those of a key
pub own_changed : (cs ws : List Want) (key : Key)
    → filter (λ w. same_key w.key key) (map (changed_want cs) ws) ≡ map (changed_want cs) (filter (λ w. same_key w.key key) ws)
own_changed cs [] key = refl
own_changed cs (w ∷ ws) key = grind (arith, changed_key cs w, own_changed cs ws key)

-- what is done to each of them
pub map_kept : (f g : Want → Want) (key : Key) (ws : List Want) → ((w : Want) → w.key ≡ key → f w ≡ g w)
    → map f (filter (λ w. same_key w.key key) ws) ≡ map g (filter (λ w. same_key w.key key) ws)
map_kept f g key [] same = refl
map_kept f g key (w ∷ ws) same = grind (arith, same w, same_key-eq w.key key, map_kept f g key ws same)

pub filter_each : {X : Type 0} → (t : X → Bool) (xs : List X) → ((x : X) → Has xs x → t x ≡ true) → filter t xs ≡ xs
filter_each t [] all = refl
filter_each t (x ∷ xs) all = grind (arith, all x (inl refl), filter_each t xs (λ y h. all y (inr h)))

pub map_twice : {X Y Z : Type 0} → (g : Y → Z) (f : X → Y) (xs : List X) → map g (map f xs) ≡ map (λ x. g (f x)) xs
map_twice g f [] = refl
map_twice g f (x ∷ xs) = ap (λ l. g (f x) ∷ l) (map_twice g f xs)

pub map_each : {X Y : Type 0} → (f g : X → Y) (xs : List X) → ((x : X) → Has xs x → f x ≡ g x) → map f xs ≡ map g xs
map_each f g [] same = refl
map_each f g (x ∷ xs) same = ap (λ y. y ∷ map f xs) (same x (inl refl)) ∙ ap (λ l. g x ∷ l) (map_each f g xs (λ y h. same y (inr h)))

-- a request without a want of a key that is named stays as it is
pub unnamed_wants : (cs ws : List Want) → ((w : Want) → Has ws w → names cs w.key ≡ false) → map (changed_want cs) ws ≡ ws
unnamed_wants cs ws none = map_each (changed_want cs) (λ w. w) ws (λ w h. unnamed_stays cs w w.key refl (none w h)) ∙ map-id ws

-- one want is changed where it stands
pub set_is_changed : (c : Want) (ws : List Want) (i : ℕ) (w : Want) → are_apart ws ≡ true → slice_get ws i ≡ Some w → w.key ≡ c.key
    → set ws i (changed_by c w) ≡ map (changed_want (c ∷ [])) ws
set_is_changed c [] i w apart at e = cc
set_is_changed c (v ∷ ws) zero w apart at e =
    let rest = unnamed_wants (c ∷ []) ws (λ u h. grind (arith, list_all-Has (λ u. not (same_key v.key u.key)) ws u, h)) in
    grind (arith, named_once c w e, rest)
set_is_changed c (v ∷ ws) (suc i) w apart at e =
    grind (arith, list_all-Has (λ u. not (same_key v.key u.key)) ws w, found_Has ws i w at, set_is_changed c ws i w)

-- keys stay apart
all_keys_changed : (key : Key) (cs ws : List Want) → list_all (λ v. not (same_key key v.key)) (map (changed_want cs) ws) ≡ list_all (λ v. not (same_key key v.key)) ws
all_keys_changed key cs [] = refl
all_keys_changed key cs (w ∷ ws) = grind (arith, changed_key cs w, all_keys_changed key cs ws)

wants_apart : (cs ws : List Want) → are_apart (map (changed_want cs) ws) ≡ are_apart ws
wants_apart cs [] = refl
wants_apart cs (w ∷ ws) = grind (arith, changed_key cs w, all_keys_changed w.key cs ws, wants_apart cs ws)

-- ---- requests

module _ (job : ℕ) (cs : List Want) (r : Request) where
  pub job_changed : (changed job cs r).job ≡ r.job
  job_changed = grind arith

  pub apart_changed : are_apart (changed job cs r).wants.items ≡ are_apart r.wants.items
  apart_changed = grind (arith, wants_apart cs r.wants.items)

  pub named_changed : (key : Key) → names (changed job cs r).wants.items key ≡ names r.wants.items key
  named_changed key = grind (arith, names_changed cs r.wants.items key)

  -- the wants of a key, of the job's requests and of others
  pub own_of_changed : (key : Key) → own_wants key (changed job cs r) ≡ cond (r.job == job) (map (changed_want cs) (own_wants key r)) (own_wants key r)
  own_of_changed key = grind (arith, own_changed cs r.wants.items key)

  -- of a key that is not named
  pub own_unnamed : (key : Key) → names cs key ≡ false → own_wants key (changed job cs r) ≡ own_wants key r
  own_unnamed key f = own_of_changed key ∙ grind (arith, map_kept (changed_want cs) (λ w. w) key r.wants.items (λ w e. unnamed_stays cs w key e f), map-id (own_wants key r))

-- of a key that is named, all changes do what its own does
pub own_named : (job : ℕ) (cs : List Want) (c : Want) (r : Request) → are_apart cs ≡ true → Has cs c
    → own_wants c.key (changed job cs r) ≡ own_wants c.key (changed_once job c r)
own_named job cs c r apart h = grind (arith, own_of_changed job cs r c.key, own_of_changed job (c ∷ []) r c.key, map_kept (changed_want cs) (changed_want (c ∷ [])) c.key r.wants.items (λ w e. first_named cs c w apart h e ∙ sym (named_once c w e)))

-- the first change, and then the others
pub changed_then : (job : ℕ) (c : Want) (later : List Want) (r : Request) → names later c.key ≡ false
    → changed job later (changed_once job c r) ≡ changed job (c ∷ later) r
changed_then job c later r f =
    let first = map_each (λ w. changed_want later (changed_want (c ∷ []) w)) (changed_want (c ∷ later)) r.wants.items (λ w h. changed_first c later w f) in
    grind (arith, map_twice (changed_want later) (changed_want (c ∷ [])) r.wants.items, first)

-- without changes it stays
pub changed_none : (job : ℕ) (r : Request) → changed job [] r ≡ r
changed_none job r = go (r.job == job)
  where
    go : (b : Bool) → cond b (with_wants r (map (changed_want []) r.wants.items)) r ≡ r
    go true = ap (with_wants r) (map-id r.wants.items)
    go false = refl

-- ---- where a want fits

-- a want fits in an order where its slot stands among the first of its key that fit
fits_in_order : (at : ℕ → Request) (order before after : List ℕ) (p : ℕ) (size : Option ℕ) (w : Want) → AreDistinct order
    → ((x : ℕ) → are_apart (at x).wants.items ≡ true) → order ≡ before ++ p ∷ after → Has (at p).wants.items w → Alike size (wants_at (map at order) w.key)
    → fits (map at before) w ≡ is_there p (take (fitting (wants_at (map at order) w.key)) (slots_at at order w.key))
fits_in_order at order before after p size w once apart is h alike =
    fits_split size [] earlier later w (subst (Alike size) all alike)
    ∙ ap (λ l. nat_lt (length earlier) (fitting l)) (sym all)
    ∙ ap (λ n. nat_lt n k) (as_many at apart before w.key)
    ∙ sym (counted_split k (slots_at at before w.key) (slots_at at after w.key) p (not_kept test p before (once before after p is).0))
    ∙ ap (λ l. is_there p (take k l)) (sym (ap (filter test) is ∙ filter_around test before after p (names-Has (at p).wants.items w.key w h refl)))
  where
    test : ℕ → Bool
    test x = names (at x).wants.items w.key

    k : ℕ
    k = fitting (wants_at (map at order) w.key)

    earlier : List Want
    earlier = wants_at (map at before) w.key

    later : List Want
    later = wants_at (map at after) w.key

    all : wants_at (map at order) w.key ≡ earlier ++ w ∷ later
    all =
        ap (λ l. wants_at l w.key) (ap (map at) is ∙ map-append at before (p ∷ after))
        ∙ queue_around (map at before) (map at after) (at p) w (apart p) h

-- ---- lists

pub there_Has : (x : ℕ) (xs : List ℕ) → is_there x xs ≡ true → Has xs x
there_Has x xs h = let found = list_any-found (λ y. y == x) xs h in subst (Has xs) (eqb-true found.0 x found.2) found.1

-- a slot stands among the first or behind them, and not in both
pub there_parts : (k x : ℕ) (xs : List ℕ) → is_there x xs ≡ (is_there x (take k xs) || is_there x (drop k xs))
there_parts k x xs = ap (is_there x) (sym (take-append-drop k xs)) ∙ list_any-append (λ y. y == x) (take k xs) (drop k xs)

pub not_in_both : (k x : ℕ) (xs : List ℕ) → AreDistinct xs → is_there x (drop k xs) ≡ true → is_there x (take k xs) ≡ false
not_in_both k x xs once behind =
    false_from_ne_true (is_there x (take k xs))
    (λ front.
    Pairs-across (λ y z. y ≢ z) (take k xs) (drop k xs) (once_pairs (take k xs ++ drop k xs) (subst AreDistinct (sym (take-append-drop k xs)) once)) x x
    (there_Has x (take k xs) front) (there_Has x (drop k xs) behind) refl)

module _ (job : ℕ) (cs : List Want) (at : ℕ → Request) (order : List ℕ) where
  abbrev new : ℕ → Request
  new x = changed job cs (at x)

  pub slots_changed : (key : Key) → slots_at new order key ≡ slots_at at order key
  slots_changed key =
      ap (λ (t : ℕ → Bool). filter t order) (λ i x. named_changed job cs (at x) key i)

  -- wants are of the pools that they were of
  pools_of : (size : Option ℕ) (ws : List Want) → list_all (λ w. is_share_of size w.pool) (map (changed_want cs) ws) ≡ list_all (λ w. is_share_of size w.pool) ws
  pools_of size [] = refl
  pools_of size (w ∷ ws) = grind (arith, changed_pool cs w, pools_of size ws)

  pools_own : (size : Option ℕ) (key : Key) (x : ℕ)
      → list_all (λ w. is_share_of size w.pool) (own_wants key (new x)) ≡ list_all (λ w. is_share_of size w.pool) (own_wants key (at x))
  pools_own size key x = grind (arith, own_of_changed job cs (at x) key, pools_of size (own_wants key (at x)))

wants_cons : (at : ℕ → Request) (p : ℕ) (order : List ℕ) (key : Key) → wants_at (map at (p ∷ order)) key ≡ own_wants key (at p) ++ wants_at (map at order) key
wants_cons at p order key = filter-append (λ w. same_key w.key key) (at p).wants.items (all_wants (map at order))

-- requests that are the same to a key where they are present
pub wants_same_there : (key : Key) (at then : ℕ → Request) (order : List ℕ)
    → ((x : ℕ) → is_there x order ≡ true → own_wants key (then x) ≡ own_wants key (at x)) → wants_at (map then order) key ≡ wants_at (map at order) key
wants_same_there key at then [] same = refl
wants_same_there key at then (p ∷ order) same =
    let here = same p (or_left (p == p) (is_there p order) (eq-eqb p p refl)) in
    let rest = wants_same_there key at then order (λ x h. same x (or_right (p == x) (is_there x order) h)) in
    grind (arith, wants_cons then p order key, wants_cons at p order key, here, rest)

module _ (job : ℕ) (cs : List Want) (at : ℕ → Request) (size : Option ℕ) (key : Key) where
  pub alike_changed : (order : List ℕ) → list_all (λ w. is_share_of size w.pool) (wants_at (map (λ x. changed job cs (at x)) order) key)
      ≡ list_all (λ w. is_share_of size w.pool) (wants_at (map at order) key)
  alike_changed [] = refl
  alike_changed (p ∷ order) =
      grind (arith, wants_cons (λ x. changed job cs (at x)) p order key, wants_cons at p order key, list_all-append, pools_own job cs at order size key p, alike_changed order)

-- the queue of a key in which a request stands that has a want of it
pub queue_of_key : (s : State) (x : ℕ) (key : Key) → IsKept s → is_there x s.order ≡ true → names (s.at x).wants.items key ≡ true
    → (m : ℕ) × IsQueued s x m × (s.key m ≡ key)
queue_of_key s x key kept present named =
    let of = names-found (s.at x).wants.items key named in
    let m = queue_of_want s.key (s.at x).wants.items (s.own x) of.0 (kept.queues x present) of.1 in
    (m.0, record { present = present; there = m.1 }, m.2 ∙ of.2)

-- the wants of each key are alike
pub alike_of : (s : State) (key : Key) → IsTable s → (size : Option ℕ) × Alike size (wants_at (map s.at s.order) key)
alike_of s key t = go (list_any test s.order) refl
  where
    test : ℕ → Bool
    test x = names (s.at x).wants.items key

    go : (b : Bool) → list_any test s.order ≡ b → (size : Option ℕ) × Alike size (wants_at (map s.at s.order) key)
    go true e =
        let found = list_any-found test s.order e in
        let m = queue_of_key s found.0 key t.kept (Has-there s.order found.0 found.1) found.2 in
        (s.size m.0, subst (λ k. Alike (s.size m.0) (wants_at (map s.at s.order) k)) m.2 (t.kept.counts found.0 m.0 m.1).counts.alike)
    go false e =
        let none : wants_at (map s.at s.order) key ≡ [] =
        wants_by_slots s.at t.kept.apart s.order key ∙ ap (map (λ p. want_of key (s.at p))) (none_kept test s.order e) in
        (None, record { each = ap (list_all (λ w. is_share_of None w.pool)) none })

-- ---- who loses

module _ (s : State) (job : ℕ) (cs : List Want) (t : IsTable s) where
  abbrev then : ℕ → Request
  then x = changed job cs (s.at x)

  -- whether each want of a slot's request stands among those that fit after the changes
  abbrev stays : ℕ → Bool
  stays p = list_all (λ w. is_there p (take (fitting (wants_at (map then s.order) w.key)) (slots_at then s.order w.key))) (then p).wants.items

  apart_then : (x : ℕ) → are_apart (then x).wants.items ≡ true
  apart_then x = apart_changed job cs (s.at x) ∙ t.kept.apart x

  stays_granted : (before after : List ℕ) (p : ℕ) → s.order ≡ before ++ p ∷ after → granted_behind (map then before) (then p) ≡ stays p
  stays_granted before after p is =
      list_all_same (fits (map then before))
      (λ w. is_there p (take (fitting (wants_at (map then s.order) w.key)) (slots_at then s.order w.key)))
      (then p).wants.items
      (λ w h.
      let alike = alike_of s w.key t in
      fits_in_order then s.order before after p alike.0 w t.kept.once apart_then is h
      (record { each = alike_changed job cs s.at alike.0 w.key s.order ∙ alike.1.each }))

  lost_all_is : some_lost (map s.at s.order) (with_changes (map s.at s.order) job cs) ≡ list_any (λ p. s.flag p && not (stays p)) s.order
  lost_all_is =
      ap (some_lost (map s.at s.order)) (map_twice (changed job cs) s.at s.order)
      ∙ marks_lose s.at then s.flag stays s.order
      (λ before after p is. sym (flags_tell_grants s t.kept t.full t.flags before after p is))
      stays_granted

  module _ (apart : are_apart cs ≡ true) where
    same_fitting : (c : Want) → Has cs c → fitting_then s.at s.order job c ≡ fitting (wants_at (map then s.order) c.key)
    same_fitting c h = sym (ap fitting (wants_same c.key (λ x. changed_once job c (s.at x)) then s.order (λ x. own_named job cs c (s.at x) apart h)))

    -- where no change takes a grant, each that is taken for granted stays so
    none_lost : ((c : Want) → Has cs c → is_lost_by s.at s.flag s.order job c ≡ false) → (p : ℕ) → is_there p s.order ≡ true → s.flag p ≡ true → stays p ≡ true
    none_lost safe p present flag = list_all-each _ (then p).wants.items each
      where
        each : (w : Want) → Has (then p).wants.items w → is_there p (take (fitting (wants_at (map then s.order) w.key)) (slots_at then s.order w.key)) ≡ true
        each w h = go (names cs w.key) refl
          where
            named : names (s.at p).wants.items w.key ≡ true
            named = sym (named_changed job cs (s.at p) w.key) ∙ names-Has (then p).wants.items w.key w h refl

            there : is_there p (slots_at s.at s.order w.key) ≡ true
            there = kept_there (λ x. names (s.at x).wants.items w.key) p s.order present named

            go : (b : Bool) → names cs w.key ≡ b → is_there p (take (fitting (wants_at (map then s.order) w.key)) (slots_at then s.order w.key)) ≡ true
            go false e =
                let of = names-found (s.at p).wants.items w.key named in
                let split = split_there p s.order present in
                let alike = alike_of s of.0.key t in
                let granted : granted_behind (map s.at split.0) (s.at p) ≡ true =
                sym (flags_tell_grants s t.kept t.full t.flags split.0 split.1 p split.2) ∙ flag in
                let fit : fits (map s.at split.0) of.0 ≡ true = list_all-Has (fits (map s.at split.0)) (s.at p).wants.items of.0 granted of.1 in
                let within : is_there p (take (fitting (wants_at (map s.at s.order) of.0.key)) (slots_at s.at s.order of.0.key)) ≡ true =
                sym (fits_in_order s.at s.order split.0 split.1 p alike.0 of.0 t.kept.once t.kept.apart split.2 of.1 alike.1) ∙ fit in
                let same = wants_same w.key s.at then s.order (λ x. own_unnamed job cs (s.at x) w.key e) in
                grind (arith, of.2, within, same, slots_changed job cs s.at s.order w.key)
            go true e =
                let of = names-found cs w.key e in
                let k : ℕ = fitting_then s.at s.order job of.0 in
                let lost = list_any-Has s.flag (drop k (slots_at s.at s.order of.0.key)) p flag in
                let has = there_Has p (drop k (slots_at s.at s.order of.0.key)) in
                let parts = there_parts k p (slots_at s.at s.order of.0.key) in
                let changed = slots_changed job cs s.at s.order of.0.key in
                grind (arith, of.2, there, lost, has, parts, changed, safe of.0 of.1, same_fitting of.0 of.1)

    -- where a change takes one, one is lost
    some_is_lost : (c : Want) → Has cs c → is_lost_by s.at s.flag s.order job c ≡ true → list_any (λ p. s.flag p && not (stays p)) s.order ≡ true
    some_is_lost c h lost =
        let k : ℕ = fitting_then s.at s.order job c in
        let found = list_any-found s.flag (drop k (slots_at s.at s.order c.key)) lost in
        let p : ℕ = found.0 in
        let behind : is_there p (drop k (slots_at s.at s.order c.key)) ≡ true = Has-there (drop k (slots_at s.at s.order c.key)) p found.1 in
        let there : is_there p (slots_at s.at s.order c.key) ≡ true = grind (arith, there_parts k p (slots_at s.at s.order c.key), behind) in
        let both = there_kept (λ x. names (s.at x).wants.items c.key) p s.order there in
        let of = names-found (then p).wants.items c.key (named_changed job cs (s.at p) c.key ∙ both.1) in
        let once : AreDistinct (slots_at s.at s.order c.key) = stands_filter (λ x. names (s.at x).wants.items c.key) s.order t.kept.once in
        let out : is_there p (take k (slots_at s.at s.order c.key)) ≡ false = not_in_both k p (slots_at s.at s.order c.key) once behind in
        let then_c : is_there p (take (fitting (wants_at (map then s.order) c.key)) (slots_at then s.order c.key)) ≡ false =
        ap (λ l. is_there p (take (fitting (wants_at (map then s.order) c.key)) l)) (slots_changed job cs s.at s.order c.key)
        ∙ ap (λ n. is_there p (take n (slots_at s.at s.order c.key))) (sym (same_fitting c h)) ∙ out in
        let here : is_there p (take (fitting (wants_at (map then s.order) of.0.key)) (slots_at then s.order of.0.key)) ≡ false =
        subst (λ q. is_there p (take (fitting (wants_at (map then s.order) q)) (slots_at then s.order q)) ≡ false) (sym of.2) then_c in
        let falls : stays p ≡ false =
        false_from_ne_true (stays p)
        (λ all.
        both_ways (is_there p (take (fitting (wants_at (map then s.order) of.0.key)) (slots_at then s.order of.0.key))) here
        (list_all-Has (λ w. is_there p (take (fitting (wants_at (map then s.order) w.key)) (slots_at then s.order w.key)))
        (then p).wants.items of.0 all of.1)) in
        list_any-Has (λ p. s.flag p && not (stays p)) s.order p (ap (λ b. b && not (stays p)) found.2 ∙ ap not falls) (there_Has p s.order both.0)

    -- so the changes tell
    pub changes_tell : list_any (is_lost_by s.at s.flag s.order job) cs ≡ some_lost (map s.at s.order) (with_changes (map s.at s.order) job cs)
    changes_tell = go (list_any (is_lost_by s.at s.flag s.order job) cs) refl ∙ sym lost_all_is
      where
        go : (b : Bool) → list_any (is_lost_by s.at s.flag s.order job) cs ≡ b → b ≡ list_any (λ p. s.flag p && not (stays p)) s.order
        go true e = let found = list_any-found (is_lost_by s.at s.flag s.order job) cs e in sym (some_is_lost found.0 found.1 found.2)
        go false e = sym (false_from_ne_true _ (λ some.
            let found = list_any-found (λ p. s.flag p && not (stays p)) s.order some in
            let parts = and_parts (s.flag found.0) (not (stays found.0)) found.2 in
            both_ways (stays found.0) (not-true (stays found.0) parts.1)
            (none_lost (λ c h. list_any-none (is_lost_by s.at s.flag s.order job) cs c e h) found.0 (Has-there s.order found.0 found.1) parts.0)))

-- ---- the wants of a queue, once a job's is changed

-- what is next stands behind the first
next_behind : (xs : List ℕ) (k p : ℕ) → slice_get xs k ≡ Some p → is_there p (drop k xs) ≡ true
next_behind [] k p e = grind arith
next_behind (x ∷ xs) zero p e = grind (arith, eq-eqb x p)
next_behind (x ∷ xs) (suc k) p e = next_behind xs k p e

-- a change keeps the pool
pub then_pool : (s : Stored) (n job : ℕ) (c : Want) (p : ℕ) → (want_then s n job c p).pool ≡ (queued_want s p n).pool
then_pool s n job c p = grind arith

-- the want of a slot in a queue that it stands in
pub record IsWantedAt (s : Stored) (n p : ℕ) (key : Key) : Type 0 where
  pub present : is_there p s.order ≡ true
  pub there : is_there n (entry_at s p).queues.items ≡ true
  pub within : position_or_len (λ m. m == n) (entry_at s p).queues.items < length (request_at s p).wants.items
  pub has : Has (request_at s p).wants.items (queued_want s p n)
  pub key_is : (queued_want s p n).key ≡ key
  pub one : own_wants key (request_at s p) ≡ queued_want s p n ∷ []

module _ (s : Stored) (locks : List Lock) (n : ℕ) (kept : IsKept (state_of s locks)) (used : IsUsed (state_of s locks) n) where
  pub counts : CountsAt (request_at s) s.order (lock_at locks n).key (lock_at locks n).size (lock_at locks n).queue
  counts = kept.counts used.slot n used.stands

  pub wanted_at : (p : ℕ) → is_there p (lock_at locks n).queue.slots ≡ true → IsWantedAt s n p (lock_at locks n).key
  wanted_at p h =
      let queued : is_there p (slots_at (request_at s) s.order (lock_at locks n).key) ≡ true = subst (λ l. is_there p l ≡ true) counts.slots h in
      let both = there_kept (λ x. names (request_at s x).wants.items (lock_at locks n).key) p s.order queued in
      let m = queue_of_key (state_of s locks) p (lock_at locks n).key kept both.0 both.1 in
      let same : m.0 ≡ n = kept.one p m.0 used.slot n m.1 used.stands m.2 in
      let there : is_there n (entry_at s p).queues.items ≡ true = subst (λ k. is_there k (entry_at s p).queues.items ≡ true) same m.1.there in
      let at = want_at_queue (λ n. (lock_at locks n).key) (request_at s p).wants.items (entry_at s p).queues.items n (kept.queues p both.0) there in
      record {
        present = both.0;
        there = there;
        within = at.0;
        has = at.1;
        key_is = at.2;
        one =
            subst (λ k. filter (λ v. same_key v.key k) (request_at s p).wants.items ≡ queued_want s p n ∷ []) at.2
            (one_of_key (request_at s p).wants.items (queued_want s p n) (kept.apart p) at.1);
      }

  pub once_there : AreDistinct (lock_at locks n).queue.slots
  once_there =
      subst AreDistinct (sym counts.slots) (stands_filter (λ x. names (request_at s x).wants.items (lock_at locks n).key) s.order kept.once)

  -- a request that is granted is not the next of a queue
  pub not_next : FlagsAll (state_of s locks) → (p : ℕ) → IsQueued (state_of s locks) p n
      → slice_get (lock_at locks n).queue.slots (lock_at locks n).queue.fitting ≡ Some p → (entry_at s p).granted ≡ true → ⊥
  not_next flags p stands at granted =
      let q = (lock_at locks n).queue in
      let all : all_count (state_of s locks) p ≡ true = sym (flags p stands.present) ∙ granted in
      let front : is_there p (take q.fitting q.slots) ≡ true =
      list_all-Has (λ m. is_counted (lock_at locks m).queue p) (entry_at s p).queues.items n all (there_Has n (entry_at s p).queues.items stands.there) in
      both_ways _ (not_in_both q.fitting p q.slots once_there (next_behind q.slots q.fitting p at)) front

  -- a want of the queue's key that is present is of the queue's pool
  pub pool_of : (p : ℕ) (w : Want) → is_there p s.order ≡ true → Has (request_at s p).wants.items w → w.key ≡ (lock_at locks n).key
      → is_share_of (lock_at locks n).size w.pool ≡ true
  pool_of p w present h e =
      alike-Has (lock_at locks n).size (wants_at (requests_in s) (lock_at locks n).key) w counts.counts.alike
      (Has-filter (λ v. same_key v.key (lock_at locks n).key) (all_wants (requests_in s)) w (eq-same_key w.key (lock_at locks n).key e)
      (Has-flat_map (λ (r : Request). r.wants.items) (requests_in s) (request_at s p) w (Has-map (request_at s) s.order p (there_Has p s.order present)) h))

  -- the slots are present
  pub all_there : All (λ p. is_there p s.order ≡ true) (lock_at locks n).queue.slots
  all_there k d lt =
      (wanted_at (get_or (lock_at locks n).queue.slots k d) (there_at (lock_at locks n).queue.slots k d lt)).present

  pub all_unpooled : (lock_at locks n).size ≡ None → All (IsUnpooledAt s n) (lock_at locks n).queue.slots
  all_unpooled none k d lt =
      let p : ℕ = get_or (lock_at locks n).queue.slots k d in
      let w = wanted_at p (there_at (lock_at locks n).queue.slots k d lt) in
      record {
        present = w.present;
        within = w.within;
        unpooled = subst (λ o. is_share_of o (queued_want s p n).pool ≡ true) none (pool_of p (queued_want s p n) w.present w.has w.key_is);
      }

  module _ (job : ℕ) (c : Want) (key : (lock_at locks n).key ≡ c.key) where
    once : ℕ → Request
    once x = changed_once job c (request_at s x)

    want_is : (p : ℕ) → Has (lock_at locks n).queue.slots p → want_of (lock_at locks n).key (changed_once job c (request_at s p)) ≡ want_then s n job c p
    want_is p h =
        let w = wanted_at p (Has-there (lock_at locks n).queue.slots p h) in
        let own = own_of_changed job (c ∷ []) (request_at s p) (lock_at locks n).key in
        grind (arith, own, w.one, named_once c (queued_want s p n) (w.key_is ∙ key))

    pub wants_then : wants_at (map (λ x. changed_once job c (request_at s x)) s.order) c.key ≡ map (want_then s n job c) (lock_at locks n).queue.slots
    wants_then =
        subst (λ k. wants_at (map (λ x. changed_once job c (request_at s x)) s.order) k ≡ map (want_then s n job c) (lock_at locks n).queue.slots) key
        (wants_by_slots (λ x. changed_once job c (request_at s x))
        (λ x. apart_changed job (c ∷ []) (request_at s x) ∙ kept.apart x) s.order (lock_at locks n).key
        ∙ ap (map (λ p. want_of (lock_at locks n).key (changed_once job c (request_at s p))))
        (slots_changed job (c ∷ []) (request_at s) s.order (lock_at locks n).key ∙ sym counts.slots)
        ∙ map_each (λ p. want_of (lock_at locks n).key (changed_once job c (request_at s p))) (want_then s n job c) (lock_at locks n).queue.slots want_is)

    pub fitting_is : fitting_then (request_at s) s.order job c ≡ fitting (map (want_then s n job c) (lock_at locks n).queue.slots)
    fitting_is = ap fitting wants_then

    pub lost_is : loses_by s job c
        ≡ list_any (λ x. (entry_at s x).granted)
        (drop (fitting (map (want_then s n job c) (lock_at locks n).queue.slots)) (lock_at locks n).queue.slots)
    lost_is =
        ap (λ k. list_any (λ x. (entry_at s x).granted) (drop k (slots_at (request_at s) s.order c.key))) fitting_is
        ∙ ap (λ l. list_any (λ x. (entry_at s x).granted) (drop (fitting (map (want_then s n job c) (lock_at locks n).queue.slots)) l))
        (ap (slots_at (request_at s) s.order) (sym key) ∙ sym counts.slots)

pub no_size : (o : Option ℕ) → is_some o ≡ false → o ≡ None
no_size o e = grind arith

pub drop_none : (k : ℕ) → drop {A = ℕ} k [] ≡ []
drop_none zero = refl
drop_none (suc k) = refl

-- ---- pools

pub share_pooled : (size : Option ℕ) (o : Option PoolShare) → is_some size ≡ true → is_share_of size o ≡ true → is_some o ≡ true
share_pooled size o a b = grind arith

-- a want that is exclusive stays so
still_exclusive : (c w : Want) → c.shared ≡ false → w.shared ≡ false → changed_by c w ≡ w
still_exclusive c w cs ws = grind arith

module _ (s : Stored) (job : ℕ) (c : Want) (right : AreRight s) (spares : SparesPools s job c) where
  -- a pool's want of the job stays as it is
  pub pool_stays : (x : ℕ) (w : Want) → is_there x s.order ≡ true → (request_at s x).job ≡ job → Has (request_at s x).wants.items w → w.key ≡ c.key
      → is_pooled w ≡ true → changed_by c w ≡ w
  pool_stays x w present mine h e pooled =
      let in_rs : Has (requests_of (requests_in s) job) (request_at s x) =
      Has-filter (λ (q : Request). q.job == job) (requests_in s) (request_at s x) (eq-eqb (request_at s x).job job mine)
      (Has-map (request_at s) s.order x (there_Has x s.order present)) in
      let there : Has (wants_at (requests_of (requests_in s) job) c.key) w =
      Has-filter (λ v. same_key v.key c.key) (all_wants (requests_of (requests_in s) job)) w (eq-same_key w.key c.key e)
      (Has-flat_map (λ (q : Request). q.wants.items) (requests_of (requests_in s) job) (request_at s x) w in_rs h) in
      let some = list_any-Has is_pooled (wants_at (requests_of (requests_in s) job) c.key) w pooled there in
      let rightly : list_all shares_rightly (request_at s x).wants.items ≡ true = grind (arith, right x present) in
      let one = list_all-Has shares_rightly (request_at s x).wants.items w rightly h in
      grind (arith, some, spares, one, pooled, still_exclusive c w)

module _ (s : Stored) (locks : List Lock) (n : ℕ) (job : ℕ) (c : Want) (t : IsTable (state_of s locks)) (right : AreRight s) (spares : SparesPools s job c)
    (used : IsUsed (state_of s locks) n) (key : (lock_at locks n).key ≡ c.key) (pooled : is_some (lock_at locks n).size ≡ true) where
  -- a change of a pool leaves all requests as they were
  pub pool_same : (x : ℕ) → is_there x s.order ≡ true → changed_once job c (request_at s x) ≡ request_at s x
  pool_same x present = go ((request_at s x).job == job) refl
    where
      each : (request_at s x).job ≡ job → (w : Want) → Has (request_at s x).wants.items w → changed_want (c ∷ []) w ≡ w
      each mine w h = at (same_key w.key c.key) refl
        where
          at : (b : Bool) → same_key w.key c.key ≡ b → changed_want (c ∷ []) w ≡ w
          at true same =
              let e : w.key ≡ c.key = same_key-eq w.key c.key same in
              named_once c w e
              ∙ pool_stays s job c right spares x w present mine h e
              (share_pooled (lock_at locks n).size w.pool pooled (pool_of s locks n t.kept used x w present h (e ∙ sym key)))
          at false other = rw other refl

      go : (b : Bool) → ((request_at s x).job == job) ≡ b
          → cond b (with_wants (request_at s x) (map (changed_want (c ∷ [])) (request_at s x).wants.items)) (request_at s x)
          ≡ request_at s x
      go true e =
          ap (with_wants (request_at s x))
          (map_each (changed_want (c ∷ [])) (λ w. w) (request_at s x).wants.items (each (eqb-true (request_at s x).job job e))
          ∙ map-id (request_at s x).wants.items)
      go false e = refl

  pub pool_keeps : loses_by s job c ≡ false
  pool_keeps = false_from_ne_true (loses_by s job c) (λ lost.
      let found =
      list_any-found (λ x. (entry_at s x).granted)
      (drop (fitting_then (request_at s) s.order job c) (slots_at (request_at s) s.order c.key)) lost in
      let p : ℕ = found.0 in
      let slots : (lock_at locks n).queue.slots ≡ slots_at (request_at s) s.order c.key =
      (counts s locks n t.kept used).slots ∙ ap (slots_at (request_at s) s.order) key in
      let behind : is_there p (drop (fitting_then (request_at s) s.order job c) (slots_at (request_at s) s.order c.key)) ≡ true =
      Has-there (drop (fitting_then (request_at s) s.order job c) (slots_at (request_at s) s.order c.key)) p found.1 in
      let same : fitting_then (request_at s) s.order job c ≡ (lock_at locks n).queue.fitting =
      ap fitting (wants_same_there c.key (request_at s) (λ x. changed_once job c (request_at s x)) s.order (λ x h. ap (own_wants c.key) (pool_same x h)))
      ∙ sym (t.full used.slot n used.stands ∙ ap (λ k. fitting (wants_at (requests_in s) k)) key) in
      let past : is_there p (drop (lock_at locks n).queue.fitting (lock_at locks n).queue.slots) ≡ true =
      ap (λ l. is_there p (drop (lock_at locks n).queue.fitting l)) slots
      ∙ ap (λ k. is_there p (drop k (slots_at (request_at s) s.order c.key))) (sym same) ∙ behind in
      let there : is_there p (lock_at locks n).queue.slots ≡ true =
      there_parts (lock_at locks n).queue.fitting p (lock_at locks n).queue.slots
      ∙ or_right (is_there p (take (lock_at locks n).queue.fitting (lock_at locks n).queue.slots))
      (is_there p (drop (lock_at locks n).queue.fitting (lock_at locks n).queue.slots)) past in
      let w = wanted_at s locks n t.kept used p there in
      let all : all_count (state_of s locks) p ≡ true = sym (t.flags p w.present) ∙ found.2 in
      let front : is_there p (take (lock_at locks n).queue.fitting (lock_at locks n).queue.slots) ≡ true =
      list_all-Has (λ m. is_counted (lock_at locks m).queue p) (entry_at s p).queues.items n all (there_Has n (entry_at s p).queues.items w.there) in
      both_ways _ (not_in_both (lock_at locks n).queue.fitting p (lock_at locks n).queue.slots (once_there s locks n t.kept used) past) front)

-- the lock in use of a key that is read by its number, and its slots
pub record Found (s : Stored) (locks : List Lock) (n : ℕ) (key : Key) (l : Lock) (slots : List ℕ) : Type 0 where
  pub is : l ≡ lock_at locks n
  pub used : IsUsed (state_of s locks) n
  pub key_is : (lock_at locks n).key ≡ key
  pub slots_is : slots ≡ (lock_at locks n).queue.slots
  pub there : All (λ p. is_there p s.order ≡ true) slots
  pub none : is_some l.size ≡ false → (lock_at locks n).size ≡ None
  pub unpooled : is_some l.size ≡ false → All (IsUnpooledAt s n) slots

pub found : (s : Stored) (locks read : List Lock) (n : ℕ) (key : Key) (l : Lock) (slots : List ℕ) → IsKept (state_of s locks)
    → InUseHaveRequests (state_of s locks) → in_use_for key (lock_at locks n) ≡ true → read ≡ locks → l ≡ get_or read n l → slots ≡ l.queue.slots
    → Found s locks n key l slots
found s locks read n key l slots kept used for same at of =
    let parts = in_use_parts key (lock_at locks n) for in
    let is : l ≡ lock_at locks n = get_or_read locks n l (in_use_within locks n parts.0) (subst (λ r. l ≡ get_or r n l) same at) unused_lock in
    let none : is_some l.size ≡ false → (lock_at locks n).size ≡ None =
    λ e. no_size (lock_at locks n).size (ap (λ (k : Lock). is_some k.size) (sym is) ∙ e) in
    let slots_is : slots ≡ (lock_at locks n).queue.slots = of ∙ ap (λ (k : Lock). k.queue.slots) is in
    record {
      is = is;
      used = used n parts.0;
      key_is = parts.1;
      slots_is = slots_is;
      there = rw slots_is (all_there s locks n kept (used n parts.0));
      none = none;
      unpooled = λ e. rw slots_is (all_unpooled s locks n kept (used n parts.0) (none e));
    }

-- ---- where a request of a key stands

pub in_use_for_from : (key : Key) (l : Lock) → in_use l.queue ≡ true → l.key ≡ key → in_use_for key l ≡ true
in_use_for_from key l some e = ap (λ b. b && same_key l.key key) some ∙ eq-same_key l.key key e

-- a request with a want of a key stands in its queue in use
pub in_use_named : (s : Stored) (locks : List Lock) (x : ℕ) (key : Key) → IsKept (state_of s locks) → is_there x s.order ≡ true
    → names (request_at s x).wants.items key ≡ true → (m : ℕ) × (in_use_for key (lock_at locks m) ≡ true)
in_use_named s locks x key kept present named =
    let m = queue_of_key (state_of s locks) x key kept present named in
    (m.0, in_use_for_from key (lock_at locks m.0) (used_in_use (state_of s locks) x m.0 kept m.1) m.2)

-- it stands among the slots of the queue
pub queued_named : (s : Stored) (locks : List Lock) (n x : ℕ) (key : Key) → IsKept (state_of s locks) → IsUsed (state_of s locks) n
    → (lock_at locks n).key ≡ key → is_there x s.order ≡ true → names (request_at s x).wants.items key ≡ true → is_there x (lock_at locks n).queue.slots ≡ true
queued_named s locks n x key kept used of present named =
    subst (λ l. is_there x l ≡ true) (sym (counts s locks n kept used).slots)
    (kept_there (λ y. names (request_at s y).wants.items (lock_at locks n).key) x s.order present (ap (names (request_at s x).wants.items) of ∙ named))

-- the first of some slots whose request is the job's
pub found_of_job : (s : Stored) (job : ℕ) (slots : List ℕ) (p : ℕ) → find (λ q. (request_at s q).job == job) slots ≡ Some p
    → (is_there p slots ≡ true) × ((request_at s p).job ≡ job)
found_of_job s job slots p found = (
  find_there (λ q. (request_at s q).job == job) slots p found,
  eqb-true (request_at s p).job job (find_passes (λ q. (request_at s q).job == job) slots p found),
)
