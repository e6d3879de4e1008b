-- Changes are made, and what fits then is counted.
use Rattle.std.proofs.Common.{◌≡◌, ◌≤◌, ◌<◌, ◌∙◌, sym, ap, subst, ℕ, zero, suc, add-one, true, false, ◌==◌, not, cond, List, [], ◌∷◌, ◌++◌, length}
use Rattle.std.proofs.Common.{take, drop, get_or, slice_get, map, sum_by, min, Some, None, inl, inr, refl, arith, Bool, ◌&&◌, is_some, ◌≢◌, ◌⊎◌}
use Rattle.std.specs.List.{list_all, position_or_len, All, list_any}
use Rattle.std.proofs.Math.Nat.{le-min, min-le_left, min-le_right}
use Rattle.std.proofs.lemmas.Bool.{cases_eq, eq-eqb, eqb-true, and_from, and_parts, both_ways, false_from_ne_true, not-false, not-true, or_left, or_right, or_from}
use Rattle.std.proofs.lemmas.List.{length-map}
use Rattle.std.proofs.lemmas.Option.{slice_get-get_or}
use Rattle.lock_queue.specs.declared.request.Request.{Request}
use Rattle.lock_queue.specs.declared.want.Want.{Want}
use Rattle.lock_queue.specs.Changes.{changed_want, changed, modify_fault, some_lost, with_changes, modify}
use Rattle.lock_queue.specs.Dequeues.{with_wants}
use Rattle.lock_queue.specs.Keys.{same_key}
use Rattle.lock_queue.specs.Queue.{amount_of, names, wants_at, is_pooled, requests_of, wants_of}
use Rattle.lock_queue.specs.Unused.{unused_want}
use Rattle.lock_queue.proofs.Fitting.{names-Has, names-found, same_key-swap, eq-same_key, same_key-eq}
use Rattle.lock_queue.proofs.ListSteps.{set_split}
use Rattle.lock_queue.proofs.Lists.{Has, list_any-Has, sum-cons, list_all-Has, list_all-each, list_any-none}
use Rattle.key_queues.specs.declared.entry.Entry.{Entry}
use Rattle.key_queues.specs.Entries.{with_want}
use Rattle.key_queues.specs.Stores.{Stored, entry_at}
use Rattle.key_queues.specs.declared.lock.Lock.{Lock}
use Rattle.key_queues.specs.Beginnings.{Alike, fitting, is_share_of}
use Rattle.key_queues.specs.Kept.{Counts, KeptQueue, counting}
use Rattle.key_queues.specs.Locks.{lock_at, with_queue}
use Rattle.key_queues.specs.LockUse.{in_use_for}
use Rattle.key_queues.specs.States.{Changes, FlagsAll, IsKept, IsUsed, in_use, IsTable, Extended, IsFull, IsQueued}
use Rattle.key_queues.specs.Tables.{is_there, own_wants, slots_at}
use Rattle.key_queues.proofs.Beginnings.{alike-Has}
use Rattle.key_queues.proofs.Changing.{changing_keeps, counts_counting}
use Rattle.key_queues.proofs.Counting.{no_pool}
use Rattle.key_queues.proofs.Finding.{in_use_parts, in_use_within}
use Rattle.key_queues.proofs.LockUseLaws.{used_in_use, used_same, in_use_extended}
use Rattle.key_queues.proofs.Lists.{split_at, take_Has}
use Rattle.lock_table.specs.TableStates.{state_of, queued_want}
use Rattle.lock_table.specs.Reads.{request_at}
use Rattle.lock_table.specs.Whole.{requests_in, AreRight, JobsAreApart}
use Rattle.lock_table.specs.Changing.{Altered, IsBetween, altered_at, changed_by, changed_once, loses_by, want_then, AreSound, IsAltering, IsSound, SparesPools, fitting_then, is_lost_by, IsChanged, IsExtending, IsFullBut}
use Rattle.lock_table.proofs.Altering.{job_changed, named_changed, set_is_changed, unnamed_wants, alike_changed, there_Has, there_parts, wants_same_there, IsWantedAt, counts, lost_is, wanted_at}
use Rattle.lock_table.proofs.Altering.{wants_then, changed_then, map_each, own_of_changed, own_unnamed, changed_none, map_twice, changes_tell, pool_same}
use Rattle.lock_table.proofs.Entries.{slot_within, entry_mine, entry_other, entry_like, lock_mine, lock_other, lock_like}
use Rattle.lock_queue.specs.Outcomes.{first_refusal, outcome}
use Rattle.lock_queue.specs.WellFormed.{are_apart}
use Rattle.lock_queue.proofs.Refusing.{or_else-None, refuse_if-None}
use Rattle.key_queues.proofs.Orders.{filter_same}
use Rattle.lock_table.proofs.Named.{has_key}
use Rattle.std.proofs.lemmas.List.Folds.{list_any-append}
use Rattle.lock_queue.specs.declared.call.LockReply.TheVariants.{Done}
use Rattle.key_queues.proofs.Keeping.{Has-there}
use Rattle.key_queues.proofs.Moves.{wants_same}

-- ---- one change is made

-- a request without a want of the key stays
pub unnamed_request : (job : ℕ) (c : Want) (r : Request) → names r.wants.items c.key ≡ false → changed_once job c r ≡ r
unnamed_request job c r f =
    grind (arith, unnamed_wants (c ∷ []) r.wants.items none)
  where
    none : (w : Want) → Has r.wants.items w → names (c ∷ []) w.key ≡ false
    none w h = grind (arith, list_any-Has (λ v. same_key v.key c.key) r.wants.items w, same_key-swap c.key w.key, h)

take_fewer : (j k x : ℕ) (xs : List ℕ) → j ≤ k → is_there x (take j xs) ≡ true → is_there x (take k xs) ≡ true
take_fewer zero k x xs le h = cc
take_fewer (suc j) zero x xs le h = absurd (omega arith)
take_fewer (suc j) (suc k) x [] le h = cc
take_fewer (suc j) (suc k) x (y ∷ xs) le h = grind (arith, take_fewer j k x xs (omega arith))

-- wants without a pool take nothing
none_taken : (ws : List Want) → ((u : Want) → Has ws u → u.pool ≡ None) → sum_by amount_of ws ≡ 0
none_taken [] f = refl
none_taken (w ∷ ws) f = grind (arith, f w (inl refl), none_taken ws (λ u h. f u (inr h)), sum-cons amount_of w ws)

first_mapped : (f : ℕ → Want) (xs : List ℕ) → 0 < length xs → slice_get (map f xs) 0 ≡ Some (f (get_or xs 0 0))
first_mapped f [] lt = absurd (omega arith)
first_mapped f (x ∷ xs) lt = refl

pub some_there : (p : ℕ) (xs : List ℕ) → is_there p xs ≡ true → 0 < length xs
some_there p [] h = cc
some_there p (x ∷ xs) h = omega arith

module _ (s : Stored) (locks : List Lock) (n p job : ℕ) (c : Want) (b : IsBetween s locks)
    (lock : in_use_for c.key (lock_at locks n) ≡ true) (none : (lock_at locks n).size ≡ None) (queued : is_there p (lock_at locks n).queue.slots ≡ true)
    (mine : (request_at s p).job ≡ job) (safe : loses_by s job c ≡ false) where
  abbrev q : KeptQueue
  q = (lock_at locks n).queue

  abbrev f : ℕ → Want
  f = want_then s n job c

  abbrev fits : ℕ
  fits = fitting (map (want_then s n job c) (lock_at locks n).queue.slots)

  abbrev k : ℕ
  k = min (fitting (map (want_then s n job c) (lock_at locks n).queue.slots)) (lock_at locks n).queue.fitting

  abbrev t : Stored
  t = altered_at s n c p

  abbrev more : List Lock
  more = with_queue locks n (counting (lock_at locks n).queue k (want_then s n job c (get_or (lock_at locks n).queue.slots 0 0)))

  abbrev i : ℕ
  i = position_or_len (λ m. m == n) (entry_at s p).queues.items

  abbrev w : Want
  w = queued_want s p n

  parts : (in_use (lock_at locks n).queue ≡ true) × ((lock_at locks n).key ≡ c.key)
  parts = in_use_parts c.key (lock_at locks n) lock

  used : IsUsed (state_of s locks) n
  used = b.used n parts.0

  wp : IsWantedAt s n p (lock_at locks n).key
  wp = wanted_at s locks n b.kept used p queued

  key_w : (queued_want s p n).key ≡ c.key
  key_w = wp.key_is ∙ parts.1

  named_p : names (request_at s p).wants.items c.key ≡ true
  named_p = names-Has (request_at s p).wants.items c.key (queued_want s p n) wp.has key_w

  within : p < length s.entries
  within = slot_within s locks p c.key named_p

  entry_p : entry_at t p ≡ with_want (entry_at s p) i (changed_by c w)
  entry_p = entry_mine s t p (with_want (entry_at s p) i (changed_by c w)) within refl

  entry_x : (x : ℕ) → (x ≡ p → ⊥) → entry_at t x ≡ entry_at s x
  entry_x = entry_other s t p (with_want (entry_at s p) i (changed_by c w)) within refl

  at_i : slice_get (request_at s p).wants.items i ≡ Some w
  at_i = slice_get-get_or (request_at s p).wants.items i unused_want wp.within

  -- the request that is changed
  request_p : request_at t p ≡ changed_once job c (request_at s p)
  request_p =
      ap (λ (g : Entry). g.request) entry_p
      ∙ ap (with_wants (request_at s p)) (set_is_changed c (request_at s p).wants.items i w (b.kept.apart p) at_i key_w)
      ∙ sym
      (ap
      (λ v. cond v (with_wants (request_at s p) (map (changed_want (c ∷ [])) (request_at s p).wants.items)) (request_at s p))
      (eq-eqb (request_at s p).job job mine))

  -- and all others stay
  request_t : (x : ℕ) → is_there x s.order ≡ true → request_at t x ≡ changed_once job c (request_at s x)
  request_t x present =
      elim (cases_eq x p) [
        | inl e ↦ subst (λ y. request_at t y ≡ changed_once job c (request_at s y)) (sym e) request_p
        | inr ne ↦
            let other = unnamed_request job c (request_at s x) in
            let apart = b.jobs x p c.key present wp.present in
            grind (arith, entry_x x ne, other, eqb-true (request_at s x).job job, apart, named_p, mine)
      ]

  within_locks : n < length locks
  within_locks = in_use_within locks n parts.0

  lock_n : lock_at more n ≡ record (lock_at locks n) { queue = counting q k (f (get_or q.slots 0 0)) }
  lock_n = lock_mine locks more n (counting q k (f (get_or q.slots 0 0))) within_locks refl

  lock_m : (m : ℕ) → (m ≡ n → ⊥) → lock_at more m ≡ lock_at locks m
  lock_m = lock_other locks more n (counting q k (f (get_or q.slots 0 0))) within_locks refl

  lock_t : {Y : Type 0} → (g : Lock → Y) → g (record (lock_at locks n) { queue = counting q k (f (get_or q.slots 0 0)) }) ≡ g (lock_at locks n)
      → (m : ℕ) → g (lock_at more m) ≡ g (lock_at locks m)
  lock_t = lock_like locks more n (counting q k (f (get_or q.slots 0 0))) within_locks refl

  key_t : (m : ℕ) → (lock_at more m).key ≡ (lock_at locks m).key
  key_t = lock_t (λ (l : Lock). l.key) refl

  size_t : (m : ℕ) → (lock_at more m).size ≡ (lock_at locks m).size
  size_t = lock_t (λ (l : Lock). l.size) refl

  slots_t : (m : ℕ) → (lock_at more m).queue.slots ≡ (lock_at locks m).queue.slots
  slots_t = lock_t (λ (l : Lock). l.queue.slots) refl

  own_t : (x : ℕ) → (entry_at t x).queues.items ≡ (entry_at s x).queues.items
  own_t = entry_like s t p (with_want (entry_at s p) i (changed_by c w)) within refl (λ (g : Entry). g.queues.items) refl

  flag_t : (x : ℕ) → (entry_at t x).granted ≡ (entry_at s x).granted
  flag_t = entry_like s t p (with_want (entry_at s p) i (changed_by c w)) within refl (λ (g : Entry). g.granted) refl

  -- the wants of the key after the change
  wants_c : wants_at (map (λ x. changed_once job c (request_at s x)) s.order) (lock_at locks n).key ≡ map f q.slots
  wants_c = ap (wants_at (map (λ x. changed_once job c (request_at s x)) s.order)) parts.1 ∙ wants_then s locks n b.kept used job c parts.1

  wants_t : wants_at (map (request_at t) s.order) (lock_at locks n).key ≡ map (want_then s n job c) (lock_at locks n).queue.slots
  wants_t =
      wants_same_there (lock_at locks n).key (λ x. changed_once job c (request_at s x)) (request_at t) s.order
      (λ x h. ap (own_wants (lock_at locks n).key) (request_t x h))
      ∙ wants_c

  alike_t : Alike None (map (want_then s n job c) (lock_at locks n).queue.slots)
  alike_t =
      subst (Alike None) wants_c
      (record {
        each =
            alike_changed job (c ∷ []) (request_at s) None (lock_at locks n).key s.order
            ∙ subst (λ o. list_all (λ w. is_share_of o w.pool) (wants_at (requests_in s) (lock_at locks n).key) ≡ true) none
            (counts s locks n b.kept used).counts.alike.each;
      })

  taken_none : (lock_at locks n).queue.taken ≡ 0
  taken_none =
      let old = (counts s locks n b.kept used).counts in
      let alike : Alike None (wants_at (requests_in s) (lock_at locks n).key) =
      subst (λ o. Alike o (wants_at (requests_in s) (lock_at locks n).key)) none old.alike in
      old.taken
      ∙ none_taken (take (lock_at locks n).queue.fitting (wants_at (requests_in s) (lock_at locks n).key))
      (λ u h. no_pool u.pool
      (alike-Has None (wants_at (requests_in s) (lock_at locks n).key) u alike
      (take_Has (lock_at locks n).queue.fitting (wants_at (requests_in s) (lock_at locks n).key) u h)))

  counts_then : Counts None (map (want_then s n job c) (lock_at locks n).queue.slots) (counting q k (f (get_or q.slots 0 0)))
  counts_then =
      counts_counting (map (want_then s n job c) (lock_at locks n).queue.slots) (lock_at locks n).queue k (f (get_or q.slots 0 0)) alike_t
      (sym (length-map (lock_at locks n).queue.slots (want_then s n job c)))
      (min-le_left fits q.fitting)
      (first_mapped (want_then s n job c) (lock_at locks n).queue.slots (some_there p (lock_at locks n).queue.slots queued))
      taken_none

  -- none that is taken for granted is left out
  stays_counted : (x : ℕ) → (entry_at s x).granted ≡ true → is_there x (take (lock_at locks n).queue.fitting (lock_at locks n).queue.slots) ≡ true
      → is_there x (take k (lock_at locks n).queue.slots) ≡ true
  stays_counted x flag counted =
      let lost = lost_is s locks n b.kept used job c parts.1 in
      let has = list_any-Has (λ x. (entry_at s x).granted) (drop fits q.slots) x flag in
      let all = take_fewer q.fitting k x q.slots in
      let front = take_fewer fits k x q.slots in
      let either = there_parts fits x q.slots in
      grind (arith, lost, has, all, front, either, there_parts q.fitting x q.slots, there_Has x (drop fits q.slots), le-min, min-le_left)

  step : Changes (state_of s locks) (state_of t more) p n (take i (request_at s p).wants.items) (drop (suc i) (request_at s p).wants.items) w (changed_by c w)
  step = record {
    stands = record { present = wp.present; there = wp.there };
    wants = split_at (request_at s p).wants.items i w at_i;
    changed =
        ap (λ (g : Entry). g.request.wants.items) entry_p ∙ set_split (request_at s p).wants.items i (changed_by c w) wp.within
        ∙ ap (λ j. take i (request_at s p).wants.items ++ changed_by c w ∷ drop j (request_at s p).wants.items) (add-one i);
    of = sym wp.key_is;
    key_is = refl;
    order = refl;
    at = λ x ne. ap (λ (g : Entry). g.request) (entry_x x ne);
    own = own_t;
    flag = flag_t;
    key = key_t;
    size = size_t;
    others = λ m ne. ap (λ (l : Lock). l.queue) (lock_m m ne);
    slots = slots_t n;
    counts =
        subst (λ o. Counts o (wants_at (map (request_at t) s.order) (lock_at locks n).key) (lock_at more n).queue) (sym none)
        (subst (λ ws. Counts None ws (lock_at more n).queue) (sym wants_t)
        (subst (λ (l : Lock). Counts None (map f q.slots) l.queue) (sym lock_n) counts_then));
    fewer =
        λ x counted.
        take_fewer k q.fitting x q.slots (min-le_right fits q.fitting)
        (subst (λ (l : Lock). is_there x (take l.queue.fitting l.queue.slots) ≡ true) lock_n counted);
    granted =
        λ x present flag counted.
        subst (λ (l : Lock). is_there x (take l.queue.fitting l.queue.slots) ≡ true) (sym lock_n) (stays_counted x flag counted);
  }

  kept_t : IsKept (state_of t more) × (FlagsAll (state_of s locks) → FlagsAll (state_of t more))
  kept_t =
      changing_keeps (state_of s locks) (state_of t more) p n (take i (request_at s p).wants.items)
      (drop (suc i) (request_at s p).wants.items) w (changed_by c w) b.kept step

  pub between_then : IsBetween t more
  between_then = record {
    kept = kept_t.0;
    flags = kept_t.1 b.flags;
    used = λ m some. used_same (state_of s locks) (state_of t more) m refl own_t (b.used m (subst (λ l. not (length l == 0) ≡ true) (slots_t m) some));
    jobs =
        λ x y key px py nx ny same.
        let named = λ (z : ℕ). named_changed job (c ∷ []) (request_at s z) key in
        let job_is = λ (z : ℕ). job_changed job (c ∷ []) (request_at s z) in
        grind (arith, request_t x px, request_t y py, named x, named y, job_is x, job_is y, b.jobs x y key);
  }

  pub altered_then : Altered s t locks more job c
  altered_then = record {
    order = refl;
    at = request_t;
    own = own_t;
    flag = flag_t;
    key = key_t;
    size = size_t;
    others = λ m ne. ap (λ (l : Lock). l.queue) (lock_m m (λ e. ne (ap (λ j. (lock_at locks j).key) e ∙ parts.1)));
  }

  pub written : (u : Stored) (l : List Lock) (j : ℕ) (v : Want) → u ≡ t → l ≡ with_queue locks n (counting (lock_at locks n).queue j v) → j ≡ k
      → v ≡ want_then s n job c (get_or (lock_at locks n).queue.slots 0 0) → IsBetween u l × Altered s u locks l job c
  written u l j v is put count first = rw (is, put, count, first) (between_then, altered_then)

-- ---- from no refusal

not_before : (c : Want) (later earlier : List Want) (d : Want) → names (earlier ++ c ∷ []) d.key ≡ false
    → (names earlier d.key ≡ false) × (same_key c.key d.key ≡ false)
not_before c later earlier d f = grind (arith, list_any-append (λ (v : Want). same_key v.key d.key) earlier (c ∷ []))

-- what no refusal says of each change
record IsPassed (requests : List Request) (job : ℕ) (earlier : List Want) (c : Want) : Type 0 where
  new : names earlier c.key ≡ false
  named : names (wants_of requests job) c.key ≡ true
  spares : (c.shared && list_any is_pooled (wants_at (requests_of requests job) c.key)) ≡ false

module _ (requests : List Request) (job : ℕ) where
  passed : (earlier changes : List Want) → first_refusal (modify_fault requests job) earlier changes ≡ None
      → ((c : Want) → Has changes c → IsPassed requests job earlier c) × (are_apart changes ≡ true)
  passed earlier [] h = (λ c k. absurd k, refl)
  passed earlier (c ∷ later) h =
      let parts = or_else-None (modify_fault requests job earlier c) (first_refusal (modify_fault requests job) (earlier ++ c ∷ []) later) h in
      let rest = passed (earlier ++ c ∷ []) later parts.1 in
      let fault = or_else-None _ _ parts.0 in
      let more = or_else-None _ _ fault.1 in
      let here : IsPassed requests job earlier c = record {
        new = refuse_if-None _ _ fault.0;
        named = not-false _ (refuse_if-None _ _ more.0);
        spares = refuse_if-None _ _ more.1;
      } in (
        λ d k. elim k [
          | inl e ↦ subst (IsPassed requests job earlier) e here
          | inr k ↦
              let p = rest.0 d k in
              record { new = (not_before c later earlier d p.new).0; named = p.named; spares = p.spares }
        ],
        and_from _ _
            (list_all-each (λ v. not (same_key c.key v.key)) later (λ d k. ap not (not_before c later earlier d (rest.0 d k).new).1)) rest.1,
      )

pub all_from_Has : (P : Want → Type 0) (xs : List Want) → ((c : Want) → Has xs c → P c) → All P xs
all_from_Has P [] f k d lt = absurd (omega arith)
all_from_Has P (x ∷ xs) f zero d lt = f x (inl refl)
all_from_Has P (x ∷ xs) f (suc k) d lt = all_from_Has P xs (λ c h. f c (inr h)) k d (omega arith)

pub Has_from_all : (P : Want → Type 0) (xs : List Want) → All P xs → (c : Want) → Has xs c → P c
Has_from_all P [] all c h = absurd h
Has_from_all P (x ∷ xs) all c (inl e) = subst P e (all 0 x (omega arith))
Has_from_all P (x ∷ xs) all c (inr h) = Has_from_all P xs (λ k d lt. all (suc k) d (omega (arith, lt))) c h

-- ---- sound at first

module _ (s : Stored) (locks : List Lock) (job : ℕ) (t : IsTable (state_of s locks)) (right : AreRight s) (changes : List Want)
    (none : first_refusal (modify_fault (requests_in s) job) [] changes ≡ None) where
  each_passed : ((c : Want) → Has changes c → IsPassed (requests_in s) job [] c) × (are_apart changes ≡ true)
  each_passed = passed (requests_in s) job [] changes none

  pub all_spare : All (SparesPools s job) changes
  all_spare = all_from_Has (SparesPools s job) changes (λ c h. (each_passed.0 c h).spares)

  pub tells_lost : list_any (loses_by s job) changes ≡ some_lost (requests_in s) (with_changes (requests_in s) job changes)
  tells_lost = changes_tell (state_of s locks) job changes t each_passed.1

  pub are_sound : list_any (loses_by s job) changes ≡ false → AreSound s locks job changes
  are_sound safe = record {
    apart = each_passed.1;
    each =
        all_from_Has (IsSound s locks job) changes
        (λ c h.
        let has = has_key s job c.key (each_passed.0 c h).named in
        record {
          slot = has.slot;
          present = has.present;
          mine = has.job_is;
          named = has.named;
          spared = λ n key pooled used. pool_same s locks n job c t right (each_passed.0 c h).spares used key pooled;
          safe = list_any-none (loses_by s job) changes c safe h;
        });
  }

-- ---- still sound

-- two changes of two keys, in either order
swapped : (c d w : Want) → same_key c.key d.key ≡ false → changed_want (c ∷ d ∷ []) w ≡ changed_want (d ∷ c ∷ []) w
swapped c d w apart = grind (arith, same_key-eq w.key c.key)

twice_swapped : (job : ℕ) (c d : Want) (r : Request) → same_key c.key d.key ≡ false
    → changed_once job d (changed_once job c r) ≡ changed_once job c (changed_once job d r)
twice_swapped job c d r apart =
    let first = changed_then job c (d ∷ []) r in
    let second = changed_then job d (c ∷ []) r in
    let same = map_each (changed_want (c ∷ d ∷ [])) (changed_want (d ∷ c ∷ [])) r.wants.items (λ w h. swapped c d w apart) in
    grind (arith, first, second, same, same_key-swap d.key c.key)

-- the wants of another key
own_other : (job : ℕ) (c d : Want) (r : Request) → same_key c.key d.key ≡ false
    → own_wants d.key (changed_once job d (changed_once job c r)) ≡ own_wants d.key (changed_once job d r)
own_other job c d r apart =
    grind (arith, own_of_changed job (d ∷ []) (changed_once job c r) d.key, job_changed job (c ∷ []) r, own_unnamed job (c ∷ []) r d.key, own_of_changed job (d ∷ []) r d.key)

module _ (s t : Stored) (locks more : List Lock) (job : ℕ) (c : Want) (a : Altered s t locks more job c) where
  back : (x : ℕ) → is_there x t.order ≡ true → is_there x s.order ≡ true
  back x h = subst (λ l. is_there x l ≡ true) a.order h

  loses_same : (d : Want) → same_key c.key d.key ≡ false → loses_by t job d ≡ loses_by s job d
  loses_same d apart =
      ap (λ l. is_lost_by (request_at t) (λ x. (entry_at t x).granted) l job d) a.order
      ∙ ap (λ (f : ℕ → Bool). list_any f (drop (fitting_then (request_at t) s.order job d) (slots_at (request_at t) s.order d.key))) (λ i x. a.flag x i)
      ∙ ap (λ l. list_any (λ x. (entry_at s x).granted) (drop (fitting_then (request_at t) s.order job d) l))
      (filter_same (λ x. names (request_at t x).wants.items d.key) (λ x. names (request_at s x).wants.items d.key) s.order
      (λ x h. ap (λ (r : Request). names r.wants.items d.key) (a.at x h) ∙ named_changed job (c ∷ []) (request_at s x) d.key))
      ∙ ap (λ k. list_any (λ x. (entry_at s x).granted) (drop k (slots_at (request_at s) s.order d.key)))
      (ap fitting (wants_same_there d.key (λ x. changed_once job d (request_at s x)) (λ x. changed_once job d (request_at t x)) s.order
      (λ x h. ap (λ (r : Request). own_wants d.key (changed_once job d r)) (a.at x h) ∙ own_other job c d (request_at s x) apart)))

  pub still_sound : (d : Want) → same_key c.key d.key ≡ false → IsSound s locks job d → IsSound t more job d
  still_sound d apart sound = record {
    slot = sound.slot;
    present = subst (λ l. is_there sound.slot l ≡ true) (sym a.order) sound.present;
    mine = ap (λ (r : Request). r.job) (a.at sound.slot sound.present) ∙ job_changed job (c ∷ []) (request_at s sound.slot) ∙ sound.mine;
    named =
        ap (λ (r : Request). names r.wants.items d.key) (a.at sound.slot sound.present)
        ∙ named_changed job (c ∷ []) (request_at s sound.slot) d.key ∙ sound.named;
    spared =
        λ n key pooled used x present.
        let same : changed_once job d (request_at s x) ≡ request_at s x =
        sound.spared n (sym (a.key n) ∙ key) (ap is_some (sym (a.size n)) ∙ pooled)
        (used_same (state_of t more) (state_of s locks) n (sym a.order) (λ y. sym (a.own y)) used) x (back x present) in
        ap (changed_once job d) (a.at x (back x present)) ∙ twice_swapped job c d (request_at s x) apart
        ∙ ap (changed_once job c) same ∙ sym (a.at x (back x present));
    safe = loses_same d apart ∙ sound.safe;
  }

  -- so are the later changes
  pub later_sound : (later : List Want) → AreSound s locks job (c ∷ later) → AreSound t more job later
  later_sound later sound =
      let parts = and_parts (list_all (λ v. not (same_key c.key v.key)) later) (are_apart later) sound.apart in
      record {
        apart = parts.1;
        each =
            all_from_Has (IsSound t more job) later
            (λ d h. still_sound d (not-true _ (list_all-Has (λ v. not (same_key c.key v.key)) later d parts.0 h)) (Has_from_all (IsSound s locks job) (c ∷ later) sound.each d (inr h)));
      }

  -- and one more is made
  pub altering_more : (s0 : Stored) (locks0 : List Lock) (changes later : List Want) → are_apart (c ∷ later) ≡ true
      → IsAltering s0 s locks0 locks job changes (c ∷ later) → IsAltering s0 t locks0 more job changes later
  altering_more s0 locks0 changes later apart i = record {
    order = a.order ∙ i.order;
    at =
        λ x present.
        ap (changed job later) (a.at x (subst (λ l. is_there x l ≡ true) (sym i.order) present))
        ∙ changed_then job c later (request_at s x) unnamed ∙ i.at x present;
    own = λ x. a.own x ∙ i.own x;
    flag = λ x. a.flag x ∙ i.flag x;
    key = λ m. a.key m ∙ i.key m;
    size = λ m. a.size m ∙ i.size m;
    others =
        λ m f.
        a.others m
        (λ e. both_ways (names changes (lock_at locks0 m).key) f
        (subst (λ k. names changes k ≡ true) (sym e ∙ i.key m)
        (i.named c.key (or_left (same_key c.key c.key) (names later c.key) (eq-same_key c.key c.key refl)))))
        ∙ i.others m f;
    named = λ key h. i.named key (or_right (same_key c.key key) (names later key) h);
  }
    where
      unnamed : names later c.key ≡ false
      unnamed = false_from_ne_true (names later c.key) (λ t.
          let of = names-found later c.key t in
          let ne =
          list_all-Has (λ v. not (same_key c.key v.key)) later of.0
          (and_parts (list_all (λ v. not (same_key c.key v.key)) later) (are_apart later) apart).0 of.1 in
          both_ways (same_key c.key of.0.key) (not-true (same_key c.key of.0.key) ne) (eq-same_key c.key of.0.key (sym of.2)))

-- ---- all that fits is counted once all changes are made

-- a queue whose wants stay as they were counts all that fit, as it did
still_full : (s t : Stored) (locks more : List Lock) (m : ℕ) → (lock_at more m).key ≡ (lock_at locks m).key → (lock_at more m).queue ≡ (lock_at locks m).queue
    → wants_at (map (request_at t) t.order) (lock_at locks m).key ≡ wants_at (map (request_at s) s.order) (lock_at locks m).key
    → IsFull (state_of s locks) m → IsFull (state_of t more) m
still_full s t locks more m key queue wants full = grind arith

-- the queues of other keys
pub full_but_changed : (s t : Stored) (locks more : List Lock) (job : ℕ) (changes : List Want) → IsTable (state_of s locks)
    → IsAltering s t locks more job changes [] → IsFullBut t more changes
full_but_changed s t locks more job changes table i x m stands f =
    let f_s : names changes (lock_at locks m).key ≡ false = subst (λ k. names changes k ≡ false) (i.key m) f in
    let there : is_there x s.order ≡ true = subst (λ l. is_there x l ≡ true) i.order stands.present in
    still_full s t locks more m (i.key m) (i.others m f_s)
    (ap (λ l. wants_at (map (request_at t) l) (lock_at locks m).key) i.order
    ∙ wants_same_there (lock_at locks m).key (request_at s) (request_at t) s.order
    (λ y present. grind (arith, changed_none job (request_at t y), i.at y present, own_unnamed job changes (request_at s y) (lock_at locks m).key f_s)))
    (table.full x m (record { present = there; there = subst (λ l. is_there m l ≡ true) (i.own x) stands.there }))

-- a key of which no queue is in use is passed over
pub extending_none : (s0 s : Stored) (locks0 locks : List Lock) (c : Want) (later : List Want) → IsKept (state_of s locks)
    → IsExtending s0 s locks0 locks (c ∷ later) → ((m : ℕ) → in_use_for c.key (lock_at locks m) ≡ false) → IsExtending s0 s locks0 locks later
extending_none s0 s locks0 locks c later kept i none = record {
  order = i.order;
  at = i.at;
  full = λ x m stands f.
      let other : same_key c.key (lock_at locks m).key ≡ false =
      grind (arith, none m, used_in_use (state_of s locks) x m kept stands, same_key-swap c.key (lock_at locks m).key) in
      i.full x m stands (or_from (same_key c.key (lock_at locks m).key) (names later (lock_at locks m).key) other f);
}

-- and of another all wants that fit are counted
pub extending_more : (s0 s t : Stored) (locks0 locks more : List Lock) (c : Want) (later : List Want) (n : ℕ) → IsBetween s locks
    → IsExtending s0 s locks0 locks (c ∷ later) → in_use_for c.key (lock_at locks n) ≡ true → Extended (state_of s locks) (state_of t more) n
    → IsFull (state_of t more) n → IsBetween t more × IsExtending s0 t locks0 more later
extending_more s0 s t locks0 locks more c later n b i is_for e full = (
  record { kept = e.kept; flags = e.flags; used = in_use_extended (state_of s locks) (state_of t more) n e used b.used; jobs = jobs },
  record { order = e.order ∙ i.order; at = λ x. e.at x ∙ i.at x; full = λ x m stands f. go x m stands f (cases_eq m n) },
)
  where
    parts : (in_use (lock_at locks n).queue ≡ true) × ((lock_at locks n).key ≡ c.key)
    parts = in_use_parts c.key (lock_at locks n) is_for

    used : IsUsed (state_of s locks) n
    used = b.used n parts.0

    jobs : JobsAreApart t
    jobs x y key px py nx ny same = grind (arith, e.order, e.at x, e.at y, b.jobs x y key)

    go : (x m : ℕ) → IsQueued (state_of t more) x m → names later (lock_at more m).key ≡ false → (m ≡ n) ⊎ (m ≢ n) → IsFull (state_of t more) m
    go x m stands f (inl here) = subst (IsFull (state_of t more)) (sym here) full
    go x m stands f (inr ne) =
        let was : IsQueued (state_of s locks) x m = record {
          present = subst (λ l. is_there x l ≡ true) e.order stands.present;
          there = subst (λ l. is_there m l ≡ true) (e.own x) stands.there;
        } in
        let other : same_key c.key (lock_at locks m).key ≡ false =
        false_from_ne_true (same_key c.key (lock_at locks m).key)
        (λ k. ne (b.kept.one x m used.slot n was used.stands (sym (same_key-eq c.key (lock_at locks m).key k) ∙ sym parts.1))) in
        let f_s : names later (lock_at locks m).key ≡ false = subst (λ k. names later k ≡ false) (e.key m) f in
        still_full s t locks more m (e.key m) (e.others m ne)
        (ap (λ l. wants_at (map (request_at t) l) (lock_at locks m).key) e.order
        ∙ wants_same (lock_at locks m).key (request_at s) (request_at t) s.order (λ y. ap (own_wants (lock_at locks m).key) (e.at y)))
        (i.full x m was (or_from (same_key c.key (lock_at locks m).key) (names later (lock_at locks m).key) other f_s))

-- ---- the list

pub changed_all : (s m t : Stored) (locks more last : List Lock) (job : ℕ) (changes : List Want) → IsAltering s m locks more job changes []
    → IsExtending m t more last [] → IsChanged s t job changes
changed_all s m t locks mid last job changes a e = record {
  order = e.order ∙ a.order;
  at = λ x present. e.at x ∙ sym (changed_none job (request_at m x)) ∙ a.at x present;
}

pub requests_changed : (s t : Stored) (job : ℕ) (changes : List Want) → IsChanged s t job changes → requests_in t ≡ with_changes (requests_in s) job changes
requests_changed s t job changes is =
    ap (map (request_at t)) is.order
    ∙ map_each (request_at t) (λ x. changed job changes (request_at s x)) s.order (λ x h. is.at x (Has-there s.order x h))
    ∙ sym (map_twice (changed job changes) (request_at s) s.order)

-- what a change that is not refused leaves
pub modified : (requests : List Request) (job : ℕ) (changes : List Want) → first_refusal (modify_fault requests job) [] changes ≡ None
    → some_lost requests (with_changes requests job changes) ≡ false → modify requests job changes ≡ outcome (with_changes requests job changes) Done
modified requests job changes none kept = grind arith
