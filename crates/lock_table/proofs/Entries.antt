-- What the code of a table finds and leaves.
use Rattle.std.proofs.Common.{◌≡◌, ◌≢◌, ◌<◌, ◌∙◌, sym, ap, subst, ℕ, suc, Bool, true, ◌==◌, List, [], length, set, take, drop, get_or, slice_get}
use Rattle.std.proofs.Common.{Some, zero, inl, inr, refl, arith, false, ◌∷◌, ◌++◌, filter, not, cond, ◌≤◌, ◌&&◌}
use Rattle.std.specs.List.{All, list_all, position_or_len, remove, list_any}
use Rattle.std.proofs.lemmas.Bool.{and_parts, cases_eq, false_from_ne_true, both_ways, ne_eqb}
use Rattle.std.proofs.lemmas.List.{get_or_past, get_or-set_same, get_or-set_other, nil_from_length, length-append}
use Rattle.std.proofs.lemmas.Option.{slice_get-get_or}
use Rattle.lock_queue.specs.declared.key.Key.{Key}
use Rattle.lock_queue.specs.declared.request.Request.{Request}
use Rattle.lock_queue.specs.declared.want.Want.{Want}
use Rattle.lock_queue.specs.Queue.{names}
use Rattle.lock_queue.specs.Unused.{unused_want}
use Rattle.lock_queue.specs.WellFormed.{are_apart}
use Rattle.key_queues.specs.declared.entry.Entry.{Entry}
use Rattle.key_queues.specs.declared.lock.Lock.{Lock}
use Rattle.key_queues.specs.Locks.{unused_lock, lock_at, with_queue, without_slot}
use Rattle.key_queues.specs.Stores.{Stored, entry_at, removed, with_entry, without_slot as order_without, is_blocked}
use Rattle.key_queues.specs.Entries.{unused_entry, without_want}
use Rattle.lock_table.specs.TableStates.{own_at, want_at, state_of}
use Rattle.key_queues.specs.Kept.{KeptQueue, fits_next, admitted}
use Rattle.key_queues.specs.States.{State, IsQueued, all_count, IsKept, FlagsAll, CountsAll, CountsBut, IsCounted, Renews, LetsIn, GivesUpAt, IsUsed, IsTable, Leaves, Extended, InUseHaveRequests}
use Rattle.key_queues.specs.Tables.{is_counted, is_there, QueuesOf, AreDistinct}
use Rattle.key_queues.proofs.Keeping.{letting_in_keeps, giving_up_keeps, leaving_keeps, queues_at, queues_without}
use Rattle.key_queues.proofs.Moves.{there_without}
use Rattle.key_queues.proofs.Lists.{split_at, length_take}
use Rattle.key_queues.proofs.Using.{Next, as_many_queues, named_there, position_found, queued_there, there_at, there_removed, kept_there, there_kept}
use Rattle.std.proofs.lemmas.Grind.{common_steps}
use Rattle.std.proofs.lemmas.List.Elements.{filter-append}
use Rattle.std.proofs.lemmas.List.Folds.{list_all-append}
use Rattle.lock_queue.specs.Keys.{same_key}
use Rattle.lock_queue.proofs.Fitting.{eq-same_key}
use Rattle.lock_queue.proofs.Lists.{Has-right}
use Rattle.key_queues.proofs.Fronts.{one_of_key}
use Rattle.std.specs.Bool.{beq}
use Rattle.lock_table.specs.Flips.{Flipped, is_wanting, mark_at, flipped_if}
use Rattle.lock_queue.specs.Dequeues.{has_wants, with_wants}
use Rattle.lock_table.specs.Reads.{request_at}
use Rattle.lock_table.specs.Departures.{stays_beside, IsLeft, is_chosen, is_leaver_at, is_of, may_be_leavers}
use Rattle.key_queues.proofs.Orders.{filter_same as same_where, without_gone, without_other, without_kept, without_left, there_last, filter_short}
use Rattle.lock_table.proofs.Altering.{filter_each}
use Rattle.lock_table.proofs.Reading.{kept_present}
use Rattle.lock_table.specs.declared.leaving.Leavers.{Leavers}
use Rattle.lock_table.specs.declared.leaving.Leavers.TheVariants.{All as Everyone, Job, Id, Waiter, Waiters}

-- ---- what the code of a table finds

-- a request is put in its slot, and the others stay
module _ (s t : Stored) (p : ℕ) (f : Entry) (lt : p < length s.entries) (is : t.entries ≡ set s.entries p f) where
  pub entry_mine : entry_at t p ≡ f
  entry_mine = ap (λ l. get_or l p unused_entry) is ∙ get_or-set_same s.entries p f unused_entry lt

  pub entry_other : (x : ℕ) → x ≢ p → entry_at t x ≡ entry_at s x
  entry_other x ne = ap (λ l. get_or l x unused_entry) is ∙ get_or-set_other s.entries p x f unused_entry ne

  pub entry_like : {Y : Type 0} → (g : Entry → Y) → g f ≡ g (entry_at s p) → (x : ℕ) → g (entry_at t x) ≡ g (entry_at s x)
  entry_like g same x =
      elim (cases_eq x p) [
        | inl e ↦ subst (λ y. g (entry_at t y) ≡ g (entry_at s y)) (sym e) (ap g entry_mine ∙ same)
        | inr ne ↦ ap g (entry_other x ne)
      ]

-- a lock gets another queue, and the others stay
module _ (locks more : List Lock) (n : ℕ) (q : KeptQueue) (lt : n < length locks) (is : more ≡ with_queue locks n q) where
  pub lock_mine : lock_at more n ≡ record (lock_at locks n) { queue = q }
  lock_mine = ap (λ l. lock_at l n) is ∙ get_or-set_same locks n (record (lock_at locks n) { queue = q }) unused_lock lt

  pub lock_other : (m : ℕ) → m ≢ n → lock_at more m ≡ lock_at locks m
  lock_other m ne = ap (λ l. lock_at l m) is ∙ get_or-set_other locks n m (record (lock_at locks n) { queue = q }) unused_lock ne

  pub lock_like : {Y : Type 0} → (g : Lock → Y) → g (record (lock_at locks n) { queue = q }) ≡ g (lock_at locks n)
      → (m : ℕ) → g (lock_at more m) ≡ g (lock_at locks m)
  lock_like g same m =
      elim (cases_eq m n) [
        | inl e ↦ subst (λ k. g (lock_at more k) ≡ g (lock_at locks k)) (sym e) (ap g lock_mine ∙ same)
        | inr ne ↦ ap g (lock_other m ne)
      ]

module _ (store : Stored) (locks : List Lock) where
  -- what is used stands within the lists
  pub lock_within : (x n : ℕ) → IsKept (state_of store locks) → IsQueued (state_of store locks) x n → n < length locks
  lock_within x n kept st = grind (arith, queued_there (state_of store locks) x n kept st, get_or_past locks n unused_lock)

  pub own_within : (x : ℕ) → IsKept (state_of store locks) → is_there x store.order ≡ true → All (λ n. n < length locks) (entry_at store x).queues.items
  own_within x kept present k d lt =
      lock_within x (get_or (entry_at store x).queues.items k d) kept (record { present = present; there = there_at (entry_at store x).queues.items k d lt })

  pub slot_within : (p : ℕ) (key : Key) → names (entry_at store p).request.wants.items key ≡ true → p < length store.entries
  slot_within p key named = grind (arith, get_or_past store.entries p unused_entry)

  -- a queue that lets its next want in
  pub extended_by : (then : Stored) (more : List Lock) (n p : ℕ) (w : Want) → IsKept (state_of store locks) → FlagsAll (state_of store locks)
      → IsUsed (state_of store locks) n → slice_get (lock_at locks n).queue.slots (lock_at locks n).queue.fitting ≡ Some p
      → Next (state_of store locks) n p w → fits_next (lock_at locks n).queue w w.pool ≡ true
      → more ≡ with_queue locks n (admitted (lock_at locks n).queue w) → Renews (state_of store more) (state_of then more) p
      → Extended (state_of store locks) (state_of then more) n
  extended_by then more n p w kept flags used at next fits is renews =
      let lt : n < length locks = lock_within used.slot n kept used.stands in
      let q : KeptQueue = admitted (lock_at locks n).queue w in
      let key = lock_like locks more n q lt is (λ (k : Lock). k.key) refl in
      let size = lock_like locks more n q lt is (λ (k : Lock). k.size) refl in
      let step : LetsIn (state_of store locks) (state_of then more) n p w =
      record {
        order = renews.order;
        at = renews.at;
        own = renews.own;
        key = key;
        size = size;
        queue = ap (λ (k : Lock). k.queue) (lock_mine locks more n q lt is);
        others = λ m ne. ap (λ (k : Lock). k.queue) (lock_other locks more n q lt is m ne);
        flags = renews.flags;
        flag = renews.flag;
      } in
      let both = letting_in_keeps (state_of store locks) (state_of then more) used.slot n p w kept used.stands step at next.found fits in
      record {
        kept = both.0;
        flags = both.1 (λ x here ne. flags x here);
        order = renews.order;
        at = renews.at;
        own = renews.own;
        key = key;
        size = size;
        others = step.others;
      }

-- what the code of a want that is given up needs
pub record Given (store : Stored) (locks : List Lock) (p k : ℕ) : Type 0 where
  pub entry_in : p < length store.entries
  pub wants_in : k < length (entry_at store p).request.wants.items
  pub lock_in : own_at store p k < length locks
  pub slot_in : position_or_len (λ m. m == p) (lock_at locks (own_at store p k)).queue.slots < length (lock_at locks (own_at store p k)).queue.slots
  pub slot_is : slice_get (lock_at locks (own_at store p k)).queue.slots
      (position_or_len (λ m. m == p) (lock_at locks (own_at store p k)).queue.slots) ≡ Some p

pub given : (store : Stored) (locks : List Lock) (p k : ℕ) → IsKept (state_of store locks) → is_there p store.order ≡ true
    → k < length (entry_at store p).queues.items → Given store locks p k
given store locks p k kept present lt =
    let s : State = state_of store locks in
    let st : IsQueued s p (own_at store p k) = record { present = present; there = there_at (entry_at store p).queues.items k 0 lt } in
    let named = named_there s.key (s.at p).wants.items (s.own p) (own_at store p k) (kept.queues p present) st.there in
    let queued = position_found p (lock_at locks (own_at store p k)).queue.slots (queued_there s p (own_at store p k) kept st) in
    record {
      entry_in = slot_within store locks p (lock_at locks (own_at store p k)).key named;
      wants_in = omega (arith, as_many_queues (λ w n. s.key n ≡ w.key) (s.at p).wants.items (s.own p) (kept.queues p present), lt);
      lock_in = lock_within store locks p (own_at store p k) kept st;
      slot_in = queued.0;
      slot_is = queued.1;
    }

pub own_within_less : (store : Stored) (locks : List Lock) (p k : ℕ) → IsKept (state_of store locks) → is_there p store.order ≡ true
    → p < length store.entries → All (λ n. n < length locks) (entry_at (with_entry store p (without_want (entry_at store p) k)) p).queues.items
own_within_less store locks p k kept present lt =
    let less : Entry = without_want (entry_at store p) k in
    subst (λ (f : Entry). All (λ n. n < length locks) f.queues.items) (sym (entry_mine store (with_entry store p less) p less lt refl))
    (λ j d below.
    let ns : List ℕ = remove (entry_at store p).queues.items k in
    let there : is_there (get_or ns j d) (entry_at store p).queues.items ≡ true =
    there_removed (get_or ns j d) k (entry_at store p).queues.items (there_at ns j d below) in
    lock_within store locks p (get_or ns j d) kept (record { present = present; there = there }))

pub gives_up_by : (store middle then : Stored) (locks more : List Lock) (p k : ℕ) → IsKept (state_of store locks)
    → k < length (entry_at store p).queues.items → Given store locks p k → middle ≡ with_entry store p (without_want (entry_at store p) k)
    → more ≡ with_queue locks (own_at store p k) (without_slot (lock_at locks (own_at store p k)).queue p (want_at store p k))
    → Renews (state_of middle more) (state_of then more) p → GivesUpAt (state_of store locks) (state_of then more) p k
gives_up_by store middle then locks more p k kept lt g is lock_is renews =
    let s : State = state_of store locks in
    let n : ℕ = own_at store p k in
    let q : KeptQueue = without_slot (lock_at locks n).queue p (want_at store p k) in
    let less : Entry = without_want (entry_at store p) k in
    let put = ap (λ (v : Stored). v.entries) is in
    let mine = entry_mine store middle p less g.entry_in put in
    let others = entry_other store middle p less g.entry_in put in
    let want : slice_get (s.at p).wants.items k ≡ Some (want_at store p k) =
    slice_get-get_or (s.at p).wants.items k unused_want g.wants_in in
    let own : slice_get (s.own p) k ≡ Some n = slice_get-get_or (s.own p) k 0 lt in
    record {
      wants = split_at (s.at p).wants.items k (want_at store p k) want;
      owned = split_at (s.own p) k n own;
      same = length_take (s.at p).wants.items k (want_at store p k) want ∙ sym (length_take (s.own p) k n own);
      index = g.slot_is;
      order = renews.order ∙ ap (λ (v : Stored). v.order) is;
      left = ap (λ (r : Request). r.wants.items) (renews.at p ∙ ap (λ (f : Entry). f.request) mine);
      at = λ x ne. renews.at x ∙ ap (λ (f : Entry). f.request) (others x ne);
      owns = renews.own p ∙ ap (λ (f : Entry). f.queues.items) mine;
      own = λ x ne. renews.own x ∙ ap (λ (f : Entry). f.queues.items) (others x ne);
      key = lock_like locks more n q g.lock_in lock_is (λ (j : Lock). j.key) refl;
      size = lock_like locks more n q g.lock_in lock_is (λ (j : Lock). j.size) refl;
      queue = ap (λ (j : Lock). j.queue) (lock_mine locks more n q g.lock_in lock_is);
      others = λ m ne. ap (λ (j : Lock). j.queue) (lock_other locks more n q g.lock_in lock_is m ne);
      flags = λ x ne. renews.flags x ne ∙ ap (λ (f : Entry). f.granted) (others x ne);
    }

-- and so the table stays
pub given_up : (store middle then : Stored) (locks more : List Lock) (p k : ℕ) → IsKept (state_of store locks) → FlagsAll (state_of store locks)
    → is_there p store.order ≡ true → k < length (entry_at store p).queues.items → middle ≡ with_entry store p (without_want (entry_at store p) k)
    → more ≡ with_queue locks (own_at store p k) (without_slot (lock_at locks (own_at store p k)).queue p (want_at store p k))
    → Renews (state_of middle more) (state_of then more) p → IsKept (state_of then more) × FlagsAll (state_of then more)
    × (CountsAll (state_of store locks) → CountsBut (own_at store p k) (state_of then more)) × IsCounted (state_of then more) (own_at store p k)
given_up store middle then locks more p k kept flags present lt is lock_is renews =
    let s : State = state_of store locks in
    let gives =
    gives_up_by store middle then locks more p k kept lt (given store locks p k kept present lt) is lock_is renews in
    let both =
    giving_up_keeps s (state_of then more) p (own_at store p k) (take k (s.at p).wants.items) (drop (suc k) (s.at p).wants.items)
    (want_at store p k) (take k (s.own p)) (drop (suc k) (s.own p))
    (position_or_len (λ m. m == p) (s.queue (own_at store p k)).slots) kept present gives in (
      both.0,
      λ x here. elim (cases_eq x p) [
        | inl e ↦ subst (λ z. (state_of then more).flag z ≡ all_count (state_of then more) z) (sym e) renews.flag
        | inr ne ↦ both.1 (λ y there apart. flags y there) x here ne
      ],
      both.2,
      both.3,
    )

-- a queue stays used where those stand in it that did
pub used_where : (s t : State) (m : ℕ) → ((x : ℕ) → IsQueued s x m → IsQueued t x m) → IsUsed s m → IsUsed t m
used_where s t m still u = record { slot = u.slot; stands = still u.slot u.stands }

-- a request that has given up all its wants leaves the store
pub left_store : (store : Stored) (locks : List Lock) (p : ℕ) → IsTable (state_of store locks) → is_there p store.order ≡ true
    → length (entry_at store p).queues.items ≡ 0 → p < length store.entries → IsTable (state_of (removed store p) locks)
left_store store locks p table present none lt =
    let i : ℕ = position_or_len (λ m. m == p) store.order in
    let s : State = state_of store locks in
    let t : State = state_of (removed store p) locks in
    let others = entry_other store (removed store p) p unused_entry lt refl in
    let few : length (s.at p).wants.items ≡ length (s.own p) =
    as_many_queues (λ w n. s.key n ≡ w.key) (s.at p).wants.items (s.own p) (table.kept.queues p present) in
    let step : Leaves s t (take i store.order) (drop (suc i) store.order) p =
    record {
      order = split_at store.order i p (position_found p store.order present).1;
      none = nil_from_length (s.at p).wants.items (few ∙ none);
      left = refl;
      apart = ap (λ (x : Entry). are_apart x.request.wants.items) (entry_mine store (removed store p) p unused_entry lt refl);
      at = λ x ne. ap (λ (y : Entry). y.request) (others x ne);
      own = λ x ne. ap (λ (y : Entry). y.queues.items) (others x ne);
      key = λ m. refl;
      size = λ m. refl;
      queue = λ m. refl;
      flags = λ x ne. ap (λ (y : Entry). y.granted) (others x ne);
    } in
    let all = leaving_keeps s t (take i store.order) (drop (suc i) store.order) p table.kept step in
    let still : (m x : ℕ) → IsQueued s x m → IsQueued t x m =
    λ m x st.
    let other : x ≢ p = λ e. grind (arith, e, st.there, nil_from_length (s.own p) none) in
    record {
      present = there_without x p i store.order (position_found p store.order present).1 other ∙ st.present;
      there = ap (λ (f : Entry). is_there m f.queues.items) (others x other) ∙ st.there;
    } in
    let used : InUseHaveRequests t = λ m some. used_where s t m (still m) (table.used m some) in
    record { kept = all.0; flags = all.1 (λ x here ne. table.flags x here); full = all.2 table.full; used = used }

-- ---- a request that is taken for granted and gives up a want is still to be taken so

-- a test answers the same of all but one that is not there
all_same : (f g : ℕ → Bool) (n : ℕ) (xs : List ℕ) → is_there n xs ≡ false → ((m : ℕ) → (m ≡ n → ⊥) → f m ≡ g m) → list_all f xs ≡ list_all g xs
all_same f g n [] out same = refl
all_same f g n (x ∷ xs) out same = grind (arith, same x, all_same f g n xs)

-- where it answers so of all, so it does of all but one
all_less : (f : ℕ → Bool) (n : ℕ) (na nb : List ℕ) → list_all f (na ++ n ∷ nb) ≡ true → list_all f (na ++ nb) ≡ true
all_less f n na nb all = grind (arith, list_all-append f na (n ∷ nb), list_all-append f na nb)

-- where none is chosen, none is named
none_named : (test : Want → Bool) (ws : List Want) → filter test ws ≡ [] → list_any test ws ≡ false
none_named test [] e = refl
none_named test (w ∷ ws) e = grind (arith, none_named test ws)

-- the wants that are left are of other keys
not_named : (a b : List Want) (w : Want) → are_apart (a ++ w ∷ b) ≡ true → names (a ++ b) w.key ≡ false
not_named a b w apart =
    let test : Want → Bool = λ v. same_key v.key w.key in
    let one : filter test (a ++ w ∷ b) ≡ w ∷ [] = one_of_key (a ++ w ∷ b) w apart (Has-right a (w ∷ b) w (inl refl)) in
    let both = filter-append test a (w ∷ b) in
    let count = length-append (filter test a) (w ∷ filter test b) in
    none_named test (a ++ b) (grind (arith, one, both, count, filter-append test a b, eq-same_key w.key w.key, nil_from_length (filter test a), nil_from_length (filter test b)))

still_counted : (s : State) (queue : ℕ → KeptQueue) (p n : ℕ) (a b : List Want) (w : Want) (na nb : List ℕ) → IsKept s → is_there p s.order ≡ true
    → (s.at p).wants.items ≡ a ++ w ∷ b → s.own p ≡ na ++ n ∷ nb → length a ≡ length na → ((m : ℕ) → (m ≡ n → ⊥) → queue m ≡ s.queue m)
    → all_count s p ≡ true → list_all (λ m. is_counted (queue m) p) (na ++ nb) ≡ true
still_counted s queue p n a b w na nb kept present wants owned same others all =
    let queues : QueuesOf (λ v m. s.key m ≡ v.key) (a ++ w ∷ b) (na ++ n ∷ nb) =
    subst (λ l. QueuesOf (λ v m. s.key m ≡ v.key) (a ++ w ∷ b) l) owned
    (subst (λ l. QueuesOf (λ v m. s.key m ≡ v.key) l (s.own p)) wants (kept.queues p present)) in
    let of : s.key n ≡ w.key = queues_at (λ v m. s.key m ≡ v.key) a b w na nb n same queues in
    let left : QueuesOf (λ v m. s.key m ≡ v.key) (a ++ b) (na ++ nb) = queues_without (λ v m. s.key m ≡ v.key) a b w na nb n same queues in
    let apart : are_apart (a ++ w ∷ b) ≡ true = subst (λ l. are_apart l ≡ true) wants (kept.apart p) in
    let gone : names (a ++ b) (s.key n) ≡ false = ap (names (a ++ b)) of ∙ not_named a b w apart in
    let out : is_there n (na ++ nb) ≡ false =
    false_from_ne_true (is_there n (na ++ nb)) (λ e. both_ways _ gone (named_there s.key (a ++ b) (na ++ nb) n left e)) in
    all_same (λ m. is_counted (queue m) p) (λ m. is_counted (s.queue m) p) n (na ++ nb) out (λ m ne. ap (λ q. is_counted q p) (others m ne))
    ∙ all_less (λ m. is_counted (s.queue m) p) n na nb (subst (λ l. list_all (λ m. is_counted (s.queue m) p) l ≡ true) owned all)

pub still_granted : (store middle : Stored) (locks more : List Lock) (p k : ℕ) → IsKept (state_of store locks) → FlagsAll (state_of store locks)
    → is_there p store.order ≡ true → k < length (entry_at store p).queues.items → Given store locks p k
    → middle ≡ with_entry store p (without_want (entry_at store p) k)
    → more ≡ with_queue locks (own_at store p k) (without_slot (lock_at locks (own_at store p k)).queue p (want_at store p k))
    → (entry_at middle p).granted ≡ true → all_count (state_of middle more) p ≡ true
still_granted store middle locks more p k kept flags present lt g is lock_is granted =
    let s : State = state_of store locks in
    let n : ℕ = own_at store p k in
    let mine = entry_mine store middle p (without_want (entry_at store p) k) g.entry_in (ap (λ (v : Stored). v.entries) is) in
    let all : all_count s p ≡ true = sym (flags p present) ∙ sym (ap (λ (f : Entry). f.granted) mine) ∙ granted in
    let want = slice_get-get_or (s.at p).wants.items k unused_want g.wants_in in
    let own = slice_get-get_or (s.own p) k 0 lt in
    let others = lock_other locks more n (without_slot (lock_at locks n).queue p (want_at store p k)) g.lock_in lock_is in
    ap (λ (f : Entry). list_all (λ m. is_counted (lock_at more m).queue p) f.queues.items) mine
    ∙ still_counted s (λ m. (lock_at more m).queue) p n (take k (s.at p).wants.items) (drop (suc k) (s.at p).wants.items) (want_at store p k)
    (take k (s.own p)) (drop (suc k) (s.own p)) kept present (split_at (s.at p).wants.items k (want_at store p k) want) (split_at (s.own p) k n own)
    (length_take (s.at p).wants.items k (want_at store p k) want ∙ sym (length_take (s.own p) k n own))
    (λ m ne. ap (λ (l : Lock). l.queue) (others m ne)) all

-- ---- marks say whose flags flipped

-- what flips twice is as it was
twice : (a b c k : Bool) → flipped_if (not (beq b c)) (flipped_if (not (beq a b)) k) ≡ flipped_if (not (beq a c)) k
twice a b c k = grind arith

still : (a k : Bool) → k ≡ flipped_if (not (beq a a)) k
still a k = grind arith

-- a request that is present and has wants was and had before: where the same are present with the same wants, and where one gave
-- up a want
pub wanting_before : (t u : Stored) (x : ℕ)
    → (is_there x u.order ≡ true → (is_there x t.order ≡ true) × ((entry_at u x).request ≡ (entry_at t x).request)) → is_wanting u x ≡ true → is_wanting t x ≡ true
wanting_before t u x same h =
    let both = and_parts (is_there x u.order) (has_wants (entry_at u x).request) h in
    grind (arith, both.0, both.1, same both.0)

some_wants : (w : Want) (ws : List Want) → not (length (w ∷ ws) == 0) ≡ true
some_wants w ws = ap not (ne_eqb (suc (length ws)) 0 (λ e. absurd (omega arith)))

some_before : (f : List Want → List Want) (ws : List Want) → f [] ≡ [] → not (length (f ws) == 0) ≡ true → not (length ws == 0) ≡ true
some_before f [] none h = subst (λ l. not (length l == 0) ≡ true) none h
some_before f (w ∷ ws) none h = some_wants w ws

pub wanting_less : (t u : Stored) (p x : ℕ) (f : List Want → List Want) → f [] ≡ [] → (is_there x u.order ≡ true → is_there x t.order ≡ true)
    → (is_there p u.order ≡ true → (entry_at u p).request ≡ with_wants (entry_at t p).request (f (entry_at t p).request.wants.items))
    → ((y : ℕ) → (y ≡ p → ⊥) → (entry_at u y).request ≡ (entry_at t y).request) → is_wanting u x ≡ true → is_wanting t x ≡ true
wanting_less t u p x f none stays left others h =
    elim (cases_eq x p) [
      | inl is ↦
          let both = and_parts (is_there x u.order) (has_wants (entry_at u x).request) h in
          let less : (entry_at u x).request ≡ with_wants (entry_at t x).request (f (entry_at t x).request.wants.items) =
          subst (λ y. is_there y u.order ≡ true → (entry_at u y).request ≡ with_wants (entry_at t y).request (f (entry_at t y).request.wants.items))
          (sym is) left both.0 in
          let some = some_before f (entry_at t x).request.wants.items none (subst (λ (r : Request). has_wants r ≡ true) less both.1) in
          grind (arith, some, stays both.0)
      | inr ne ↦ wanting_before t u x (λ there. (stays there, others x ne)) h
    ]

pub none_removed : (k : ℕ) → remove {X = Want} [] k ≡ []
none_removed zero = refl
none_removed (suc k) = refl

pub flipped_then : (s t u : Stored) (l m n : List Bool) → ((x : ℕ) → is_wanting u x ≡ true → is_wanting t x ≡ true) → Flipped s t l m → Flipped t u m n → Flipped s u l n
flipped_then s t u l m n stay first second x h =
    grind (arith, second x h, first x (stay x h), twice (entry_at s x).granted (entry_at t x).granted (entry_at u x).granted (mark_at l x))

pub flipped_still : (s t : Stored) (m : List Bool) → ((x : ℕ) → is_wanting t x ≡ true → (entry_at t x).granted ≡ (entry_at s x).granted) → Flipped s t m m
flipped_still s t m same x h =
    subst (λ b. mark_at m x ≡ flipped_if (not (beq (entry_at s x).granted b)) (mark_at m x)) (sym (same x h)) (still (entry_at s x).granted (mark_at m x))

-- ---- some requests give up some keys

pub has_where_named : (r : Request) (key : Key) → names r.wants.items key ≡ true → has_wants r ≡ true
has_where_named r key h = go r.wants.items h
  where
    go : (ws : List Want) → names ws key ≡ true → not (length ws == 0) ≡ true
    go [] h = cc
    go (w ∷ ws) h = some_wants w ws

-- who is still there was there, and is another
pub there_beside : (x p : ℕ) (xs : List ℕ) → AreDistinct xs → is_there x (order_without xs p) ≡ true → (x ≢ p) × (is_there x xs ≡ true)
there_beside x p xs once h =
    let ne : x ≢ p = λ e. grind (arith, without_gone p xs once, e) in
    (ne, sym (without_other p xs x ne) ∙ h)

-- who is there before one more slot is another
pub there_before : (x p : ℕ) (xs : List ℕ) → is_there x (xs ++ p ∷ []) ≡ true → x ≢ p → is_there x xs ≡ true
there_before x p xs h ne = grind (arith, there_last x p xs)

-- a slot leaves those that a test keeps
remove_filter : (t u : ℕ → Bool) (p : ℕ) (xs : List ℕ) → AreDistinct xs → t p ≡ true → u p ≡ false → ((x : ℕ) → (x ≡ p → ⊥) → t x ≡ u x)
    → order_without (filter t xs) p ≡ filter u xs
remove_filter t u p xs once keeps drops same =
    sym (without_kept p xs t keeps) ∙ same_where t u (order_without xs p) (λ x h. same x (there_beside x p xs once h).0) ∙ without_left p xs u drops

-- the order, where those that have wants left stay
pub order_step : (t u : ℕ → Bool) (p : ℕ) (first order then : List ℕ) → AreDistinct first → order ≡ filter t first
    → then ≡ cond (u p) order (remove order (position_or_len (λ m. m == p) order)) → t p ≡ true → ((x : ℕ) → (x ≡ p → ⊥) → t x ≡ u x) → then ≡ filter u first
order_step t u p first order then once was is keeps same = go (u p) refl is
  where
    go : (b : Bool) → u p ≡ b → then ≡ cond b order (remove order (position_or_len (λ m. m == p) order)) → then ≡ filter u first
    go true e now = now ∙ was ∙ ap (λ (v : ℕ → Bool). filter v first) (λ i x. each x i)
      where
        each : (x : ℕ) → t x ≡ u x
        each x = grind (arith, same x)
    go false e now = now ∙ ap (λ l. remove l (position_or_len (λ m. m == p) l)) was ∙ remove_filter t u p first once keeps e same

-- a slot that is not there cannot be taken out
pub absent : (q : ℕ) (ys : List ℕ) → is_there q ys ≡ false → order_without ys q ≡ ys
absent q [] f = refl
absent q (y ∷ ys) f = grind (arith, common_steps, absent q ys)

-- who stays beside one slot fewer
pub beside_next : (before : List ℕ) (p : ℕ) (first order then : List ℕ) → AreDistinct first → order ≡ filter (stays_beside before) first
    → then ≡ order_without order p → then ≡ filter (stays_beside (before ++ p ∷ [])) first
beside_next before p first order then once was is = go (is_there p order) refl
  where
    next : (x : ℕ) → x ≢ p → stays_beside before x ≡ stays_beside (before ++ p ∷ []) x
    next x ne = grind (arith, there_last x p before, ne)

    last : stays_beside (before ++ p ∷ []) p ≡ false
    last = grind (arith, there_last p p before)

    go : (b : Bool) → is_there p order ≡ b → then ≡ filter (stays_beside (before ++ p ∷ [])) first
    go true here =
        let keeps = (there_kept (stays_beside before) p first (subst (λ l. is_there p l ≡ true) was here)).1 in
        is ∙ ap (λ l. order_without l p) was ∙ remove_filter (stays_beside before) (stays_beside (before ++ p ∷ [])) p first once keeps last next
    go false out =
        is ∙ absent p order out ∙ was
        ∙ same_where (stays_beside before) (stays_beside (before ++ p ∷ [])) first
        (λ x h. grind (arith, there_last x p before, kept_there (stays_beside before) x first h, was, out))

-- a request that has given up all its wants leaves
pub gone : (s t u : Stored) (locks : List Lock) (p : ℕ) (l m : List Bool) → IsTable (state_of t locks) → is_there p t.order ≡ true
    → length (entry_at t p).queues.items ≡ 0 → Flipped s t l m → p < length t.entries → u ≡ removed t p → IsTable (state_of u locks) × Flipped s u l m
gone s t u locks p l m table present none flipped lt is =
    let beside : (x : ℕ) → is_there x (order_without t.order p) ≡ true → (x ≢ p) × (is_there x t.order ≡ true) =
    λ x h. there_beside x p t.order table.kept.once h in
    let other : (x : ℕ) → is_there x (order_without t.order p) ≡ true → entry_at (removed t p) x ≡ entry_at t x =
    λ x h. entry_other t (removed t p) p unused_entry lt refl x (beside x h).0 in
    let still =
    flipped_still t (removed t p) m
    (λ x h. ap (λ (f : Entry). f.granted) (other x (and_parts _ (has_wants (entry_at (removed t p) x).request) h).0)) in
    subst (λ (v : Stored). IsTable (state_of v locks) × Flipped s v l m) (sym is) (
      left_store t locks p table present none lt,
      flipped_then s t (removed t p) l m m
          (λ x h. wanting_before t (removed t p) x (λ there. ((beside x there).1, ap (λ (f : Entry). f.request) (other x there))) h) flipped still,
    )

-- of the requests that stay, each is as it was
pub left_next : (s t u : Stored) (before : List ℕ) (p : ℕ) → AreDistinct s.order → IsLeft s t (request_at s) (stays_beside before)
    → u.order ≡ order_without t.order p → AreDistinct t.order → ((x : ℕ) → (x ≡ p → ⊥) → (entry_at u x).request ≡ (entry_at t x).request)
    → IsLeft s u (request_at s) (stays_beside (before ++ p ∷ []))
left_next s t u before p once was order once_t others = record {
  order = beside_next before p s.order t.order u.order once was.order order;
  left =
      λ x h.
      let both = there_beside x p t.order once_t (subst (λ l. is_there x l ≡ true) order h) in
      others x both.0 ∙ was.left x both.1;
}

pub left_none : (s : Stored) → IsLeft s s (request_at s) (stays_beside [])
left_none s = record { order = sym (filter_each (stays_beside []) s.order (λ x h. refl)); left = λ x h. refl }

-- who is there after a slot stays or leaves was there
pub stays_in : (b : Bool) (x p : ℕ) (xs then : List ℕ) → AreDistinct xs → then ≡ cond b xs (order_without xs p) → is_there x then ≡ true → is_there x xs ≡ true
stays_in b x p xs then once is h = grind (arith, there_beside x p xs once)

-- ---- the requests that leave as a whole are all among those that may (Everyone is Leavers::All)

-- those that two tests choose, one behind the other
filter_twice : (a t : ℕ → Bool) (xs : List ℕ) → filter t (filter a xs) ≡ filter (λ x. a x && t x) xs
filter_twice a t [] = refl
filter_twice a t (x ∷ xs) = grind (arith, filter_twice a t xs)

pub leavers_among : (s : Stored) (who : Leavers) → filter (λ x. is_chosen who (entry_at s x)) (may_be_leavers s who) ≡ filter (is_leaver_at s who) s.order
leavers_among s Everyone = refl
leavers_among s (Job job) = filter_each (λ x. true) (filter (is_of s job) s.order) (λ x h. refl)
leavers_among s (Id job id) = filter_twice (is_of s job) (λ x. (entry_at s x).request.id == id) s.order
leavers_among s (Waiter job) = filter_twice (is_of s job) (λ x. is_blocked (entry_at s x)) s.order
leavers_among s (Waiters jobs) = refl

pub leavers_present : (s : Stored) (who : Leavers) → All (λ x. is_there x s.order ≡ true) (may_be_leavers s who)
leavers_present s Everyone = λ k d lt. there_at s.order k d lt
leavers_present s (Job job) = kept_present (is_of s job) s.order
leavers_present s (Id job id) = kept_present (is_of s job) s.order
leavers_present s (Waiter job) = kept_present (is_of s job) s.order
leavers_present s (Waiters jobs) = λ k d lt. there_at s.order k d lt

pub leavers_few : (s : Stored) (who : Leavers) → length (may_be_leavers s who) ≤ length s.order
leavers_few s Everyone = omega arith
leavers_few s (Job job) = filter_short (is_of s job) s.order
leavers_few s (Id job id) = filter_short (is_of s job) s.order
leavers_few s (Waiter job) = filter_short (is_of s job) s.order
leavers_few s (Waiters jobs) = omega arith
