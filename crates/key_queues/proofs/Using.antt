-- What is found of queues that are used.
use Rattle.std.proofs.Common.{◌≡◌, ◌≤◌, ◌<◌, ◌+◌, ◌∙◌, sym, ap, subst, ℕ, zero, suc, Bool, true, false, ◌==◌, cond, List, [], ◌∷◌, length, get_or, map, filter, slice_get, Some, None, inl, inr, refl, arith}
use Rattle.std.specs.List.{position_or_len, remove}
use Rattle.std.proofs.lemmas.Bool.{cases_eq, eqb-false}
use Rattle.std.proofs.lemmas.List.{get_or-set_same, get_or-set_other, nil_from_length}
use Rattle.std.proofs.lemmas.Option.{slice_get-map}
use Rattle.lock_queue.specs.declared.key.Key.{Key}
use Rattle.lock_queue.specs.declared.want.Want.{Want}
use Rattle.lock_queue.specs.Queue.{wants_at, names}
use Rattle.lock_queue.proofs.Fitting.{eq-same_key, names-found}
use Rattle.lock_queue.proofs.Lists.{Has}
use Rattle.key_queues.specs.declared.lock.Lock.{Lock}
use Rattle.key_queues.specs.Locks.{uncounted, lock_at, want_in, with_queue}
use Rattle.key_queues.specs.Kept.{KeptQueue, fits_next, admitted}
use Rattle.key_queues.specs.States.{State, IsQueued, IsKept, CountsAll, CountsBut, IsCounted, GivesUpAt, IsUsed, IsFull, Extended}
use Rattle.key_queues.specs.Tables.{is_there, slots_at, QueuesOf}
use Rattle.key_queues.proofs.Counted.{want_of, wants_by_slots}
use Rattle.key_queues.proofs.Counting.{counts_all}
use Rattle.key_queues.proofs.Beginnings.{fitting_most}
use Rattle.key_queues.proofs.Keeping.{found_there}
use Rattle.key_queues.proofs.Lists.{past_none, found_within}
use Rattle.key_queues.proofs.Orders.{filter_passes, there_filter}
pub use Rattle.key_queues.proofs.Orders.{filter_there as kept_there, there_at}
use Rattle.key_queues.proofs.Fronts.{one_of_key}

-- what is kept by a filter was there, and passes
pub there_kept : (t : ℕ → Bool) (x : ℕ) (xs : List ℕ) → is_there x (filter t xs) ≡ true
    → (is_there x xs ≡ true) × (t x ≡ true)
there_kept t x xs h = (there_filter t x xs h, filter_passes t x xs h)

-- a request names the key of each of its queues
pub named_there : (key : ℕ → Key) (ws : List Want) (ns : List ℕ) (n : ℕ) → QueuesOf (λ w m. key m ≡ w.key) ws ns
    → is_there n ns ≡ true → names ws (key n) ≡ true
named_there key [] [] n q h = cc
named_there key (w ∷ ws) (m ∷ ns) n q h = grind (arith, named_there key ws ns n, eq-same_key w.key (key n))
named_there key [] (m ∷ ns) n q h = absurd q
named_there key (w ∷ ws) [] n q h = absurd q

-- a queue that is used has the slot
pub queued_there : (s : State) (x n : ℕ) → IsKept s → IsQueued s x n → is_there x (s.queue n).slots ≡ true
queued_there s x n kept st =
    let queues = kept.queues x st.present in
    let c = kept.counts x n st in
    grind (arith, named_there s.key (s.at x).wants.items (s.own x) n, kept_there)

-- each want has a queue
pub queue_of_want : (key : ℕ → Key) (ws : List Want) (ns : List ℕ) (w : Want) → QueuesOf (λ w m. key m ≡ w.key) ws ns
    → Has ws w → (m : ℕ) × (is_there m ns ≡ true) × (key m ≡ w.key)
queue_of_want key (v ∷ ws) (m ∷ ns) w q (inl e) = (m, grind arith, q.0 ∙ ap (λ (u : Want). u.key) e)
queue_of_want key (v ∷ ws) (m ∷ ns) w q (inr h) =
    let found = queue_of_want key ws ns w q.1 h in (found.0, grind arith, found.2)
queue_of_want key [] ns w q h = absurd h
queue_of_want key (v ∷ ws) [] w q h = absurd q

-- and the want of a queue stands where the queue does
pub want_at_queue : (key : ℕ → Key) (ws : List Want) (ns : List ℕ) (n : ℕ) → QueuesOf (λ w m. key m ≡ w.key) ws ns
    → is_there n ns ≡ true
    → (position_or_len (λ m. m == n) ns < length ws) × Has ws (want_in ns ws n) × ((want_in ns ws n).key ≡ key n)
want_at_queue key [] [] n q h = cc
want_at_queue key (v ∷ ws) (m ∷ ns) n q h = grind (arith, want_at_queue key ws ns n q.1)
want_at_queue key [] (m ∷ ns) n q h = absurd q
want_at_queue key (v ∷ ws) [] n q h = absurd q

-- the slot of the first want of a queue that is not counted
pub record Next (s : State) (n p : ℕ) (w : Want) : Type 0 where
  pub stands : IsQueued s p n
  pub named : names (s.at p).wants.items (s.key n) ≡ true
  pub within : position_or_len (λ m. m == n) (s.own p) < length (s.at p).wants.items
  pub want : w ≡ want_in (s.own p) (s.at p).wants.items n
  pub found : slice_get (wants_at (map s.at s.order) (s.key n)) (s.queue n).fitting ≡ Some w

pub next_is : (s : State) (n p : ℕ) → IsKept s → IsUsed s n → slice_get (s.queue n).slots (s.queue n).fitting ≡ Some p
    → Next s n p (want_in (s.own p) (s.at p).wants.items n)
next_is s n p kept used e =
    let c = kept.counts used.slot n used.stands in
    let ws : List Want = (s.at p).wants.items in
    let queued : is_there p (slots_at s.at s.order (s.key n)) ≡ true = rw c.slots at (found_there p (s.queue n).fitting (s.queue n).slots e) in
    let both = there_kept (λ x. names (s.at x).wants.items (s.key n)) p s.order queued in
    let of = names-found ws (s.key n) both.1 in
    let queues = kept.queues p both.0 in
    let m = queue_of_want s.key ws (s.own p) of.0 queues of.1 in
    let same : m.0 ≡ n =
    kept.one p m.0 used.slot n (record { present = both.0; there = m.1 }) used.stands (m.2 ∙ of.2) in
    let there : is_there n (s.own p) ≡ true = rw same at m.1 in
    let at = want_at_queue s.key ws (s.own p) n queues there in
    let mine : want_of (s.key n) (s.at p) ≡ want_in (s.own p) ws n =
    rw (← at.2, one_of_key ws (want_in (s.own p) ws n) (kept.apart p) at.1) refl in
    record {
      stands = record { present = both.0; there = there };
      named = both.1;
      within = at.0;
      want = refl;
      found =
          rw (wants_by_slots s.at kept.apart s.order (s.key n), slice_get-map (λ x. want_of (s.key n) (s.at x)), ← c.slots, e, mine) refl;
    }

-- where there is none, or it does not fit, all that fit are counted
pub full_at_end : (s : State) (n : ℕ) → IsKept s → IsUsed s n → slice_get (s.queue n).slots (s.queue n).fitting ≡ None
    → IsFull s n
full_at_end s n kept used e =
    let c = kept.counts used.slot n used.stands in
    grind (arith, fitting_most, past_none (s.queue n).slots (s.queue n).fitting e)

pub full_where_unfit : (s : State) (n p : ℕ) (w : Want) → IsKept s → IsUsed s n → Next s n p w
    → fits_next (s.queue n) w w.pool ≡ false → IsFull s n
full_where_unfit s n p w kept used next f =
    (counts_all (s.size n) (wants_at (map s.at s.order) (s.key n)) (s.queue n) w (kept.counts used.slot n used.stands).counts next.found f).all

-- a lock with its queue changed, and the others
pub lock_with : (locks : List Lock) (n m : ℕ) (q : KeptQueue) → n < length locks
    → lock_at (with_queue locks n q) m ≡ cond (m == n) (record (lock_at locks n) { queue = q }) (lock_at locks m)
lock_with locks n m q lt = grind (arith, get_or-set_other, get_or-set_same)

-- one want fewer is left to count
pub one_fewer : (locks more : List Lock) (n : ℕ) (w : Want) → n < length locks
    → (lock_at locks n).queue.fitting < length (lock_at locks n).queue.slots
    → more ≡ with_queue locks n (admitted (lock_at locks n).queue w)
    → uncounted (lock_at more n).queue + 1 ≤ uncounted (lock_at locks n).queue
one_fewer locks more n w lt next is = grind (arith, lock_with)

-- the first slot of a number that is there
pub position_found : (p : ℕ) (xs : List ℕ) → is_there p xs ≡ true
    → (position_or_len (λ m. m == p) xs < length xs) × (slice_get xs (position_or_len (λ m. m == p) xs) ≡ Some p)
position_found p [] h = cc
position_found p (x ∷ xs) h = grind (arith, position_found p xs)

pub there_removed : (m k : ℕ) (ns : List ℕ) → is_there m (remove ns k) ≡ true → is_there m ns ≡ true
there_removed m zero [] h = h
there_removed m (suc k) [] h = h
there_removed m zero (n ∷ ns) h = grind arith
there_removed m (suc k) (n ∷ ns) h = grind (arith, there_removed m k ns)

pub as_many_queues : (R : Want → ℕ → Type 0) (ws : List Want) (ns : List ℕ) → QueuesOf R ws ns → length ws ≡ length ns
as_many_queues R [] [] q = refl
as_many_queues R (w ∷ ws) (n ∷ ns) q = ap suc (as_many_queues R ws ns q.1)
as_many_queues R [] (n ∷ ns) q = absurd q
as_many_queues R (w ∷ ws) [] q = absurd q

-- what a request owns after that it owned before
pub owned_before : (s t : State) (p k x m : ℕ) → GivesUpAt s t p k → is_there m (t.own x) ≡ true → is_there m (s.own x) ≡ true
owned_before s t p k x m gives there =
    elim (cases_eq x p) [
      | inl e ↦
          let of : is_there m (t.own p) ≡ true = subst (λ y. is_there m (t.own y) ≡ true) e there in
          subst (λ y. is_there m (s.own y) ≡ true) (sym e) (there_removed m k (s.own p) (subst (λ l. is_there m l ≡ true) gives.owns of))
      | inr ne ↦ subst (λ l. is_there m l ≡ true) (gives.own x ne) there
    ]

-- a queue that is not empty after that is used
pub used_after : (s t : State) (p k : ℕ) → IsKept s → IsKept t → is_there p s.order ≡ true → k < length (s.own p)
    → GivesUpAt s t p k → IsCounted t (get_or (s.own p) k 0) → (length (t.queue (get_or (s.own p) k 0)).slots == 0) ≡ false
    → IsUsed t (get_or (s.own p) k 0)
used_after s t p k kept_s kept_t present lt gives counted some =
    let n : ℕ = get_or (s.own p) k 0 in
    let any = found_within (t.queue n).slots 0 (omega (arith, eqb-false (length (t.queue n).slots) 0 some)) in
    let x : ℕ = any.0 in
    let queued : is_there x (slots_at t.at t.order (t.key n)) ≡ true =
    subst (λ l. is_there x l ≡ true) counted.slots (found_there x 0 (t.queue n).slots any.1) in
    let both = there_kept (λ y. names (t.at y).wants.items (t.key n)) x t.order queued in
    let of = names-found (t.at x).wants.items (t.key n) both.1 in
    let m = queue_of_want t.key (t.at x).wants.items (t.own x) of.0 (kept_t.queues x both.0) of.1 in
    let same : m.0 ≡ n =
    kept_s.one x m.0 p n
    (record { present = rw gives.order at both.0; there = owned_before s t p k x m.0 gives m.1 })
    (record { present = present; there = there_at (s.own p) k 0 lt })
    (cc (gives.key m.0, gives.key n, m.2, of.2)) in
    record { slot = x; stands = record { present = both.0; there = rw same at m.1 } }

-- all queues are full again where the one that was not is, or is empty
pub full_extended : (s t : State) (n : ℕ) → CountsBut n s → Extended s t n → IsFull t n → CountsAll t
full_extended s t n but e full x m st = grind arith

pub full_empty : (s : State) (n : ℕ) → IsKept s → CountsBut n s → (length (s.queue n).slots == 0) ≡ true → CountsAll s
full_empty s n kept but none x m st = grind (arith, nil_from_length, queued_there)
