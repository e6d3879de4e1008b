-- A request comes, and its wants are entered in the locks that are ready for them.
use Rattle.std.proofs.Common.{◌≡◌, ◌≤◌, ◌<◌, ◌+◌, ◌*◌, ◌∙◌, sym, ap, subst, ℕ, zero, suc, Bool, true, false, ◌==◌, List, [], ◌∷◌, ◌++◌, length}
use Rattle.std.proofs.Common.{get_or, inl, inr, refl, arith, length-append, Option, Some, None, not, set, take, ◌≢◌, map}
use Rattle.std.specs.List.{list_any, list_all, All}
use Rattle.std.proofs.lemmas.Bool.{or_left, or_right, or_cases, eq-eqb, eqb-true, both_ways, cases_eq, false≢true, not-true, not-false, false_from_ne_true}
use Rattle.std.proofs.lemmas.List.Folds.{list_any-append}
use Rattle.word36.specs.declared.sizes.TheConstants.{LOCKS_A_CALL, JOBS}
use Rattle.key_queues.specs.Tables.{is_there, IsAt}
use Rattle.key_queues.proofs.Keeping.{split_there, Has-there, renewing_keeps, flags_tell_grants}
use Rattle.key_queues.proofs.Orders.{there_split}
use Rattle.key_queues.proofs.LockUseLaws.{there_around, used_same, used_in_use}
use Rattle.lock_queue.specs.declared.want.Want.{Want}
use Rattle.lock_queue.specs.Keys.{same_key}
use Rattle.lock_queue.specs.Pools.{PoolShare}
use Rattle.lock_queue.specs.Queue.{names, granted_behind, wants_at}
use Rattle.lock_queue.proofs.Fitting.{eq-same_key}
use Rattle.lock_queue.proofs.Lists.{list_any-found}
use Rattle.key_queues.specs.declared.lock.Lock.{Lock}
use Rattle.key_queues.specs.Beginnings.{is_share_of, fitting}
use Rattle.key_queues.specs.Locks.{lock_at, unused_lock}
use Rattle.key_queues.specs.Stores.{Stored, entry_at, with_entry, inserted}
use Rattle.key_queues.specs.Kept.{IsQueueOf, no_queue, appended, KeptQueue}
use Rattle.key_queues.specs.States.{State, IsQueued, IsKept, CountsAll, FlagsBut, InUseHaveRequests, IsUsed, in_use, Begins, TakesWant, FlagsAll, IsTable, Enters, Renews}
use Rattle.key_queues.proofs.Arriving.{beginning_keeps, taking_keeps, entering_keeps}
use Rattle.key_queues.proofs.Counted.{fresh_queue}
use Rattle.lock_table.specs.TableStates.{state_of}
use Rattle.lock_table.specs.Arrivals.{IsArriving, Admits, AdmitsFrom, AreShort}
use Rattle.key_queues.specs.Found.{Readies, IsBegun, IsEntered}
use Rattle.key_queues.specs.LockUse.{is_free, in_use_for, size_of}
use Rattle.key_queues.proofs.Finding.{in_use_parts}
use Rattle.std.proofs.lemmas.Option.{slice_get-get_or}
use Rattle.lock_queue.specs.Unused.{unused_want}
use Rattle.lock_queue.specs.WellFormed.{are_apart}
use Rattle.key_queues.specs.declared.entry.Entry.{Entry}
use Rattle.key_queues.proofs.Lists.{take_next}
use Rattle.key_queues.specs.Entries.{with_more, arrived}
use Rattle.lock_table.proofs.Entries.{entry_mine, entry_other, lock_mine, lock_other, own_within, used_where, there_before}
use Rattle.arrayvec.specs.ArrayVec.{ArrayVec}
use Rattle.lock_queue.specs.declared.call.Asking.{Asking}
use Rattle.lock_queue.specs.declared.request.Request.{Request}
use Rattle.lock_queue.specs.Dequeues.{with_wants}
use Rattle.lock_queue.specs.Enqueues.{request_of}
use Rattle.key_queues.proofs.Moves.{map_same}
use Rattle.lock_table.proofs.Altering.{in_use_for_from, queue_of_key}

-- ---- there is a lock that is free while a want is left to be entered

-- a list that has all numbers below a bound is at least so long
pub covers : (n : ℕ) (xs : List ℕ) → ((k : ℕ) → k < n → is_there k xs ≡ true) → n ≤ length xs
covers zero xs all = omega arith
covers (suc n) xs all =
    let found = split_there n xs (all n (omega arith)) in
    let less : n ≤ length (found.0 ++ found.1) =
    covers n (found.0 ++ found.1)
    (λ k lt. there_around k n found.0 found.1 (λ e. absurd (omega (arith, lt, e))) (subst (λ l. is_there k l ≡ true) found.2 (all k (omega (arith, lt))))) in
    let long = ap length found.2 ∙ length-append found.0 (n ∷ found.1) in
    omega (arith, less, long, length-append found.0 found.1)

-- the queues of some slots, one after another
pub owned : (ℕ → List ℕ) → List ℕ → List ℕ
owned own [] = []
owned own (x ∷ xs) = own x ++ owned own xs

pub there_owned : (own : ℕ → List ℕ) (x n : ℕ) (xs : List ℕ) → is_there x xs ≡ true → is_there n (own x) ≡ true → is_there n (owned own xs) ≡ true
unfolding owned
there_owned own x n [] h there = cc
there_owned own x n (y ∷ xs) h there =
    list_any-append (λ z. z == n) (own y) (owned own xs)
    ∙ elim (or_cases (y == x) (is_there x xs) h) [
      | inl e ↦ or_left (is_there n (own y)) (is_there n (owned own xs)) (subst (λ z. is_there n (own z) ≡ true) (sym (eqb-true y x e)) there)
      | inr rest ↦ or_right (is_there n (own y)) (is_there n (owned own xs)) (there_owned own x n xs rest there)
    ]

pub owned_few : (own : ℕ → List ℕ) (before : List ℕ) (p : ℕ) → ((x : ℕ) → is_there x before ≡ true → length (own x) ≤ LOCKS_A_CALL)
    → length (owned own (before ++ p ∷ [])) ≤ LOCKS_A_CALL * length before + length (own p)
unfolding owned
owned_few own [] p short = omega (arith, length-append (own p) [])
owned_few own (x ∷ before) p short =
    let here = short x (or_left (x == x) (is_there x before) (eq-eqb x x refl)) in
    let rest = owned_few own before p (λ y h. short y (or_right (x == y) (is_there y before) h)) in
    omega (arith, length-append (own x) (owned own (before ++ p ∷ [])), rest, here)

-- where no element passes, none does at its position
pub none_at : {X : Type 0} → (t : X → Bool) (xs : List X) (k : ℕ) (d : X) → list_any t xs ≡ false → k < length xs → t (get_or xs k d) ≡ false
none_at t [] k d h lt = absurd (omega arith)
none_at t (x ∷ xs) zero d h lt = grind arith
none_at t (x ∷ xs) (suc k) d h lt = grind (arith, none_at t xs k d)

-- ---- a want's lock is made ready for it

pub empty_queue : (size : Option ℕ) → IsQueueOf size [] no_queue
empty_queue size = record {
  counts = record { alike = record { each = refl }; slots = refl; most = omega arith; taken = refl; party = refl };
  all = refl;
}

pub share_of_size : (o : Option PoolShare) → is_share_of (size_of o) o ≡ true
share_of_size None = refl
share_of_size (Some share) = eq-eqb share.size share.size refl

-- what holds of the queue that a want is entered in
pub record IsReady (s : State) (w : Want) (n : ℕ) : Type 0 where
  pub kept : IsKept s
  pub full : CountsAll s
  pub used : InUseHaveRequests s
  pub key : s.key n ≡ w.key
  pub only : (x m : ℕ) → IsQueued s x m → s.key m ≡ w.key → m ≡ n
  pub is : IsAt s.at s.order w.key (s.size n) (s.queue n)
  pub alike : is_share_of (s.size n) w.pool ≡ true
  pub room : length (s.queue n).slots < JOBS

module _ (store : Stored) (locks : List Lock) (p : ℕ) (wants : List Want) (k : ℕ) where
  -- there is a lock that is free
  pub room_left : IsArriving store locks p wants k → k < length wants → LOCKS_A_CALL * length store.order ≤ length locks → list_any is_free locks ≡ true
  room_left a more room = go (list_any is_free locks) refl
    where
      go : (b : Bool) → list_any is_free locks ≡ b → b ≡ true
      go true e = refl
      go false e =
          let all : (m : ℕ) → m < length locks → is_there m (owned (λ x. (entry_at store x).queues.items) store.order) ≡ true =
          λ m lt.
          let some : in_use (lock_at locks m).queue ≡ true = not-false (in_use (lock_at locks m).queue) (none_at is_free locks m unused_lock e lt) in
          let u : IsUsed (state_of store locks) m = a.used m some in
          there_owned (λ x. (entry_at store x).queues.items) u.slot m store.order u.stands.present u.stands.there in
          let long = covers (length locks) (owned (λ x. (entry_at store x).queues.items) store.order) all in
          let before : List ℕ = a.last.0 in
          let few =
          owned_few (λ x. (entry_at store x).queues.items) before p
          (λ x h. a.short x
          (subst (λ l. is_there x l ≡ true) (sym a.last.1)
          (list_any-append (λ z. z == x) before (p ∷ []) ∙ or_left (is_there x before) (is_there x (p ∷ [])) h))) in
          let same = ap (λ l. length (owned (λ x. (entry_at store x).queues.items) l)) a.last.1 in
          let count = ap length a.last.1 in
          absurd (omega (arith, long, few, same, count, length-append before (p ∷ []), room, more, a.few, a.own))

  -- the lock stays as it is
  was_ready : (more : List Lock) (w : Want) (n : ℕ) → IsArriving store locks p wants k → Admits locks w → ((m : ℕ) → lock_at more m ≡ lock_at locks m)
      → in_use_for w.key (lock_at locks n) ≡ true → IsReady (state_of store more) w n × FlagsBut p (state_of store more)
  was_ready more w n a admits same t =
      subst (λ (v : State). IsReady v w n × FlagsBut p v) (sym same_state) (ready, a.flags)
    where
      s : State
      s = state_of store locks

      same_state : state_of store more ≡ state_of store locks
      same_state = λ i. record {
        order = store.order;
        at = s.at;
        own = s.own;
        flag = s.flag;
        key = λ m. (same m i).key;
        size = λ m. (same m i).size;
        queue = λ m. (same m i).queue;
      }

      parts : (in_use (lock_at locks n).queue ≡ true) × ((lock_at locks n).key ≡ w.key)
      parts = in_use_parts w.key (lock_at locks n) t

      u : IsUsed s n
      u = a.used n parts.0

      ready : IsReady s w n
      ready = record {
        kept = a.kept;
        full = a.full;
        used = a.used;
        key = parts.1;
        only = λ x m st e. a.kept.one x m u.slot n st u.stands (e ∙ sym parts.1);
        is =
            let c = a.kept.counts u.slot n u.stands in
            let is : IsAt s.at store.order (s.key n) (s.size n) (s.queue n) =
            record { slots = c.slots; queue = record { counts = c.counts; all = a.full u.slot n u.stands } } in
            subst (λ j. IsAt s.at store.order j (s.size n) (s.queue n)) parts.1 is;
        alike = admits.alike n t;
        room = admits.room n t;
      }

  begun_is_ready : (more : List Lock) (w : Want) (n : ℕ) → IsArriving store locks p wants k
      → ((m : ℕ) → (m ≡ n → ⊥) → lock_at more m ≡ lock_at locks m) → IsBegun locks more w n → IsReady (state_of store more) w n × FlagsBut p (state_of store more)
  begun_is_ready more w n a others begun = (ready, both.2 a.flags)
    where
      s : State
      s = state_of store locks

      t : State
      t = state_of store more

      idle : in_use (lock_at locks n).queue ≡ false
      idle = not-true (in_use (lock_at locks n).queue) begun.free

      step : Begins s t n
      step = record {
        unused = λ x st. both_ways (in_use (lock_at locks n).queue) idle (used_in_use s x n a.kept st);
        order = refl;
        at = λ x. refl;
        own = λ x. refl;
        flag = λ x. refl;
        keys = λ m ne. ap (λ (l : Lock). l.key) (others m ne);
        sizes = λ m ne. ap (λ (l : Lock). l.size) (others m ne);
        others = λ m ne. ap (λ (l : Lock). l.queue) (others m ne);
      }

      both : IsKept t × (CountsAll s → CountsAll t) × (FlagsBut p s → FlagsBut p t)
      both = beginning_keeps s t p n a.kept step

      -- no request stands in a queue of the key
      nobody : (x m : ℕ) → IsQueued s x m → s.key m ≡ w.key → ⊥
      nobody x m st e =
          both_ways (in_use_for w.key (lock_at locks m)) (begun.none m)
          (in_use_for_from w.key (lock_at locks m) (used_in_use s x m a.kept st) e)

      none : list_any (λ x. names (s.at x).wants.items w.key) store.order ≡ false
      none = false_from_ne_true (list_any (λ x. names (s.at x).wants.items w.key) store.order) (λ e.
          let found = list_any-found (λ x. names (s.at x).wants.items w.key) store.order e in
          let m = queue_of_key s found.0 w.key a.kept (Has-there store.order found.0 found.1) found.2 in
          nobody found.0 m.0 m.1 m.2)

      ready : IsReady t w n
      ready = record {
        kept = both.0;
        full = both.1 a.full;
        used =
            λ m some.
            elim (cases_eq m n) [
              | inl e ↦
                  let no : false ≡ true =
                  subst (λ (l : Lock). in_use l.queue ≡ true) begun.fresh (subst (λ k. in_use (lock_at more k).queue ≡ true) e some) in
                  absurd (false≢true no)
              | inr ne ↦
                  used_same s t m refl (λ x. refl) (a.used m (subst (λ (l : Lock). in_use l.queue ≡ true) (others m ne) some))
            ];
        key = ap (λ (l : Lock). l.key) begun.fresh;
        only =
            λ x m st e.
            elim (cases_eq m n) [
              | inl here ↦ here
              | inr ne ↦
                  absurd (nobody x m (record { present = st.present; there = st.there }) (sym (ap (λ (l : Lock). l.key) (others m ne)) ∙ e))
            ];
        is =
            subst (λ (l : Lock). IsAt s.at store.order w.key l.size l.queue) (sym begun.fresh)
            (fresh_queue s.at store.order w.key (size_of w.pool) no_queue a.kept.apart none (empty_queue (size_of w.pool)));
        alike = subst (λ (l : Lock). is_share_of l.size w.pool ≡ true) (sym begun.fresh) (share_of_size w.pool);
        room = subst (λ (l : Lock). length l.queue.slots < JOBS) (sym begun.fresh) (omega arith);
      }

  -- in both cases
  pub is_ready : (more : List Lock) (w : Want) (n : ℕ) → IsArriving store locks p wants k → Admits locks w → Readies locks more w n
      → IsReady (state_of store more) w n × FlagsBut p (state_of store more)
  is_ready more w n a admits r =
      elim r.mine [
        | inl was ↦
            was_ready more w n a admits
            (λ m. elim (cases_eq m n) [
              | inl e ↦ subst (λ k. lock_at more k ≡ lock_at locks k) (sym e) was.same
              | inr ne ↦ r.others m ne
            ])
            was.in_use_for
        | inr begun ↦ begun_is_ready more w n a r.others begun
      ]

-- ---- a want is entered in the lock that is ready for it

all_take : (f : Want → Bool) (n : ℕ) (ws : List Want) → list_all f ws ≡ true → list_all f (take n ws) ≡ true
all_take f zero ws h = refl
all_take f (suc n) [] h = refl
all_take f (suc n) (w ∷ ws) h = grind (arith, all_take f n ws)

pub all_at : (f : Want → Bool) (ws : List Want) (k : ℕ) (d : Want) → list_all f ws ≡ true → k < length ws → f (get_or ws k d) ≡ true
all_at f [] k d h lt = absurd (omega arith)
all_at f (w ∷ ws) zero d h lt = grind arith
all_at f (w ∷ ws) (suc k) d h lt = grind (arith, all_at f ws k d)

-- the first of wants whose keys are apart are so too
apart_take : (n : ℕ) (ws : List Want) → are_apart ws ≡ true → are_apart (take n ws) ≡ true
apart_take zero ws h = refl
apart_take (suc n) [] h = refl
apart_take (suc n) (w ∷ ws) h = grind (arith, all_take (λ v. not (same_key w.key v.key)) n ws, apart_take n ws)

-- and two of them have different keys
pub apart_at : (ws : List Want) (j k : ℕ) (d : Want) → are_apart ws ≡ true → j < k → k < length ws → same_key (get_or ws j d).key (get_or ws k d).key ≡ false
apart_at [] j k d h lt within = absurd (omega arith)
apart_at (w ∷ ws) j zero d h lt within = absurd (omega arith)
apart_at (w ∷ ws) zero (suc k) d h lt within = grind (arith, all_at (λ v. not (same_key w.key v.key)) ws k d)
apart_at (w ∷ ws) (suc j) (suc k) d h lt within = grind (arith, apart_at ws j k d)

module _ (store later : Stored) (locks most : List Lock) (p n k : ℕ) (wants : List Want) (w : Want) where
  pub entered_one : IsArriving store locks p wants k → k < length wants → w ≡ get_or wants k unused_want → p < length store.entries
      → IsEntered locks most p w n → later ≡ with_entry store p (with_more (entry_at store p) w n) → IsArriving later most p wants (k + 1)
  entered_one a within is placed e owned = record {
    kept = both.0;
    full = both.1 ready.full;
    flags = both.2 both_ready.1;
    used = used;
    last = (a.last.0, same_order ∙ a.last.1);
    entered = ap (λ (g : Entry). g.request.wants.items) mine ∙ ap (λ l. l ++ w ∷ []) a.entered ∙ sym next;
    own = own_length ∙ ap (λ j. j + 1) a.own;
    within = omega (arith, within);
    apart = a.apart;
    few = a.few;
    admits = admits;
    short = short;
  }
    where
      more : List Lock
      more = e.middle

      f : Entry
      f = entry_at store p

      s : State
      s = state_of store more

      t : State
      t = state_of later most

      same_order : later.order ≡ store.order
      same_order = ap (λ (v : Stored). v.order) owned

      put : later.entries ≡ set store.entries p (with_more f w n)
      put = ap (λ (v : Stored). v.entries) owned

      mine : entry_at later p ≡ with_more f w n
      mine = entry_mine store later p (with_more f w n) placed put

      others : (x : ℕ) → (x ≡ p → ⊥) → entry_at later x ≡ entry_at store x
      others = entry_other store later p (with_more f w n) placed put

      own_length : length (entry_at later p).queues.items ≡ length f.queues.items + 1
      own_length = ap (λ (g : Entry). length g.queues.items) mine ∙ length-append f.queues.items (n ∷ [])

      here : lock_at most n ≡ record (lock_at more n) { queue = appended (lock_at more n).queue p w }
      here = lock_mine more most n (appended (lock_at more n).queue p w) e.ready.within e.after

      beside : (m : ℕ) → (m ≡ n → ⊥) → lock_at most m ≡ lock_at more m
      beside = lock_other more most n (appended (lock_at more n).queue p w) e.ready.within e.after

      both_ready : IsReady s w n × FlagsBut p s
      both_ready = is_ready store locks p wants k more w n a (subst (Admits locks) (sym is) (a.admits k (omega arith) within)) e.ready

      ready : IsReady s w n
      ready = both_ready.0

      next : take (k + 1) wants ≡ take k wants ++ w ∷ []
      next = take_next wants k w (slice_get-get_or wants k unused_want within ∙ ap Some (sym is))

      step : TakesWant s t a.last.0 p n (take k wants) w (s.size n) (s.queue n)
      step = record {
        last = a.last.1;
        order = same_order;
        wants = a.entered;
        more = ap (λ (g : Entry). g.request.wants.items) mine ∙ ap (λ l. l ++ w ∷ []) a.entered;
        apart = subst (λ l. are_apart l ≡ true) next (apart_take (k + 1) wants a.apart);
        owns = ap (λ (g : Entry). g.queues.items) mine;
        at = λ x ne. ap (λ (g : Entry). g.request) (others x ne);
        own = λ x ne. ap (λ (g : Entry). g.queues.items) (others x ne);
        is = ready.is;
        alike = ready.alike;
        only = ready.only;
        same = λ x st. (ready.key, refl, refl);
        key = ap (λ (l : Lock). l.key) here ∙ ready.key;
        size_is = ap (λ (l : Lock). l.size) here;
        queue = ap (λ (l : Lock). l.queue) here;
        keys = λ m ne. ap (λ (l : Lock). l.key) (beside m ne);
        sizes = λ m ne. ap (λ (l : Lock). l.size) (beside m ne);
        others = λ m ne. ap (λ (l : Lock). l.queue) (beside m ne);
        flags = λ x ne. ap (λ (g : Entry). g.granted) (others x ne);
      }

      both : IsKept t × (CountsAll s → CountsAll t) × (FlagsBut p s → FlagsBut p t)
      both = taking_keeps s t a.last.0 p n (take k wants) w (s.size n) (s.queue n) ready.kept step

      present : is_there p later.order ≡ true
      present = ap (is_there p) (same_order ∙ a.last.1) ∙ there_split p a.last.0 []

      still : (m x : ℕ) → IsQueued s x m → IsQueued t x m
      still m x st = record {
        present = ap (is_there x) same_order ∙ st.present;
        there = grind (arith, mine, others x, list_any-append (λ z. z == m) f.queues.items (n ∷ []), st.there);
      }

      owns_new : is_there n (entry_at later p).queues.items ≡ true
      owns_new = grind (arith, mine, list_any-append (λ z. z == n) f.queues.items (n ∷ []))

      used : InUseHaveRequests t
      used m some =
          elim (cases_eq m n) [
            | inl e ↦ subst (IsUsed t) (sym e) (record { slot = p; stands = record { present = present; there = owns_new } })
            | inr ne ↦ used_where s t m (still m) (ready.used m (subst (λ (l : Lock). in_use l.queue ≡ true) (beside m ne) some))
          ]

      short : AreShort later
      short x h = grind (arith, own_length, a.own, a.few, others x, a.short x, same_order)

      -- the lock in use of a want that is entered later is what it was
      as_before : (j m : ℕ) → k < j → j < length wants → in_use_for (get_or wants j unused_want).key (lock_at most m) ≡ true → lock_at most m ≡ lock_at locks m
      as_before j m lt in_wants t =
          elim (cases_eq m n) [
            | inl e ↦
                let parts = in_use_parts (get_or wants j unused_want).key (lock_at most m) t in
                let key : w.key ≡ (get_or wants j unused_want).key =
                sym ready.key ∙ sym (ap (λ (l : Lock). l.key) here) ∙ ap (λ z. (lock_at most z).key) (sym e) ∙ parts.1 in
                let mine_key : (get_or wants k unused_want).key ≡ (get_or wants j unused_want).key =
                ap (λ (v : Want). v.key) (sym is) ∙ key in
                absurd (both_ways (same_key (get_or wants k unused_want).key (get_or wants j unused_want).key)
                (apart_at wants k j unused_want a.apart lt in_wants)
                (eq-same_key (get_or wants k unused_want).key (get_or wants j unused_want).key mine_key))
            | inr ne ↦ beside m ne ∙ e.ready.others m ne
          ]

      admits : AdmitsFrom (k + 1) most wants
      admits j le in_wants =
          let above : k < j = omega (arith, le) in
          let was : Admits locks (get_or wants j unused_want) = a.admits j (omega (arith, above)) in_wants in
          record {
            alike = λ m t. grind (arith, as_before j m above in_wants t, was.alike m, t);
            room = λ m t. grind (arith, as_before j m above in_wants t, was.room m, t);
          }

-- ---- a request has come

-- a request stands last, and none of its wants is entered
pub came_last : (store later : Stored) (locks : List Lock) (p job : ℕ) (asking : Asking) (wants : List Want) → IsTable (state_of store locks)
    → AreShort store → p < length store.entries → is_there p store.order ≡ false → are_apart wants ≡ true → length wants ≤ LOCKS_A_CALL
    → AdmitsFrom 0 locks wants → later ≡ inserted store p (arrived job asking false) → IsArriving later locks p wants 0
came_last store later locks p job asking wants table short lt out apart few admits put = record {
  kept = both.0;
  full = both.1 table.full;
  flags = both.2 table.flags;
  used = used;
  last = (store.order, same_order);
  entered = ap (λ (g : Entry). g.request.wants.items) mine;
  own = ap (λ (g : Entry). length g.queues.items) mine;
  within = omega arith;
  apart = apart;
  few = few;
  admits = admits;
  short =
      λ x h.
      elim (cases_eq x p) [
        | inl e ↦
            subst (λ z. length (entry_at later z).queues.items ≤ LOCKS_A_CALL) (sym e)
            (subst (λ (g : Entry). length g.queues.items ≤ LOCKS_A_CALL) (sym mine) (omega arith))
        | inr ne ↦
            let was : is_there x store.order ≡ true = there_before x p store.order (subst (λ l. is_there x l ≡ true) same_order h) ne in
            subst (λ (g : Entry). length g.queues.items ≤ LOCKS_A_CALL) (sym (others x ne)) (short x was)
      ];
}
  where
    f : Entry
    f = arrived job asking false

    s : State
    s = state_of store locks

    t : State
    t = state_of later locks

    same_order : later.order ≡ store.order ++ p ∷ []
    same_order = ap (λ (v : Stored). v.order) put

    put_in : later.entries ≡ set store.entries p f
    put_in = ap (λ (v : Stored). v.entries) put

    mine : entry_at later p ≡ f
    mine = entry_mine store later p f lt put_in

    others : (x : ℕ) → x ≢ p → entry_at later x ≡ entry_at store x
    others = entry_other store later p f lt put_in

    step : Enters s t p
    step = record {
      out = out;
      order = same_order;
      none = ap (λ (g : Entry). g.request.wants.items) mine;
      owns = ap (λ (g : Entry). g.queues.items) mine;
      at = λ x ne. ap (λ (g : Entry). g.request) (others x ne);
      own = λ x ne. ap (λ (g : Entry). g.queues.items) (others x ne);
      key = λ m. refl;
      size = λ m. refl;
      queue = λ m. refl;
      flags = λ x ne. ap (λ (g : Entry). g.granted) (others x ne);
    }

    both : IsKept t × (CountsAll s → CountsAll t) × (FlagsAll s → FlagsBut p t)
    both = entering_keeps s t p table.kept step

    still : (m x : ℕ) → IsQueued s x m → IsQueued t x m
    still m x st =
        let ne : x ≢ p = λ e. grind (arith, e, out, st.present) in
        record {
          present = grind (arith, same_order, list_any-append (λ z. z == x) store.order (p ∷ []), st.present);
          there = ap (λ (g : Entry). is_there m g.queues.items) (others x ne) ∙ st.there;
        }

    used : InUseHaveRequests t
    used m some = used_where s t m (still m) (table.used m some)

pub came_others : (store later : Stored) (p x job : ℕ) (asking : Asking) → p < length store.entries
    → later ≡ inserted store p (arrived job asking false) → (x ≡ p → ⊥) → (entry_at later x).request ≡ (entry_at store x).request
came_others store later p x job asking lt put ne =
    ap (λ (g : Entry). g.request) (entry_other store later p (arrived job asking false) lt (ap (λ (v : Stored). v.entries) put) x ne)

pub came_mine : (store later : Stored) (p job : ℕ) (asking : Asking) → p < length store.entries → later ≡ inserted store p (arrived job asking false)
    → (entry_at later p).request ≡ request_of job asking false (record { items = [] })
came_mine store later p job asking lt put =
    ap (λ (g : Entry). g.request) (entry_mine store later p (arrived job asking false) lt (ap (λ (v : Stored). v.entries) put))

-- all wants of the request are entered, and its flag is set right
module _ (store later : Stored) (locks : List Lock) (p : ℕ) (wants : List Want) where
  pub present_last : IsArriving store locks p wants (length wants) → is_there p store.order ≡ true
  present_last a = subst (λ l. is_there p l ≡ true) (sym a.last.1) (there_split p a.last.0 [])

  pub arrived_by : IsArriving store locks p wants (length wants) → Renews (state_of store locks) (state_of later locks) p → IsTable (state_of later locks)
  arrived_by a renews = record {
    kept = both.0;
    flags = both.1 a.flags;
    full = full;
    used =
        λ m some.
        used_same s t m renews.order renews.own (a.used m (subst (λ (q : KeptQueue). in_use q ≡ true) (renews.queue m) some));
  }
    where
      s : State
      s = state_of store locks

      t : State
      t = state_of later locks

      both : IsKept t × (FlagsBut p s → FlagsAll t)
      both = renewing_keeps s t p a.kept renews

      full : CountsAll t
      full x m st =
          let was : IsQueued s x m = record {
            present = subst (λ l. is_there x l ≡ true) renews.order st.present;
            there = subst (λ l. is_there m l ≡ true) (renews.own x) st.there;
          } in
          let same : (λ y. t.at y) ≡ (λ y. s.at y) = λ i y. renews.at y i in
          a.full x m was
          ∙ ap fitting (sym (ap (λ l. wants_at (map t.at l) (s.key m)) renews.order ∙ ap (λ (f : ℕ → Request). wants_at (map f s.order) (s.key m)) same))

  pub queues_within : IsArriving store locks p wants (length wants) → All (λ n. n < length locks) (entry_at store p).queues.items
  queues_within a = own_within store locks p a.kept (present_last a)

-- a request with its wants is what it was without them, and they
pub whole_again : (r : Request) (job : ℕ) (asking : Asking) (wants : ArrayVec Want)
    → with_wants r [] ≡ request_of job asking false (record { items = [] }) → r.wants.items ≡ wants.items → r ≡ request_of job asking false wants
whole_again r job asking wants bare all =
    ap (λ (q : Request). with_wants q r.wants.items) bare ∙ ap (with_wants (request_of job asking false (record { items = [] }))) all

-- and it is granted where it has to be
pub flag_last : (store later : Stored) (before : List ℕ) (locks : List Lock) (p : ℕ) (r : Request) → IsTable (state_of later locks)
    → later.order ≡ before ++ p ∷ [] → is_there p before ≡ false → (entry_at later p).request ≡ r
    → ((x : ℕ) → (x ≡ p → ⊥) → (entry_at later x).request ≡ (entry_at store x).request)
    → (entry_at later p).granted ≡ granted_behind (map (λ x. (entry_at store x).request) before) r
flag_last store later before locks p r table last out is others =
    flags_tell_grants (state_of later locks) table.kept table.full table.flags before [] p last
    ∙ ap (λ l. granted_behind l (entry_at later p).request)
    (map_same (λ x. (entry_at later x).request) (λ x. (entry_at store x).request) p before out others)
    ∙ ap (granted_behind (map (λ x. (entry_at store x).request) before)) is
