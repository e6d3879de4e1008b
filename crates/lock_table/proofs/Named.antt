-- A job gives up keys.
use Rattle.std.proofs.Common.{◌≡◌, ◌<◌, ◌≤◌, IfSome, ◌∙◌, sym, ap, subst, ℕ, zero, suc, true, false, ◌==◌, not, List, [], ◌∷◌, length, get_or, filter, slice_get}
use Rattle.std.proofs.Common.{Some, arith, ◌≢◌, ◌+◌, Bool, ◌&&◌, cond, ◌++◌, take, Option, None, inl, inr, refl, append_assoc, append-nil, map}
use Rattle.std.specs.List.{list_all, position_or_len, remove, All, find}
use Rattle.std.proofs.lemmas.Bool.{both_ways, and_parts, cases_eq, eq-eqb, eqb-true, false_from_ne_true, not-false}
use Rattle.lock_queue.specs.declared.key.Key.{Key}
use Rattle.lock_queue.specs.declared.want.Want.{Want}
use Rattle.lock_queue.specs.Dequeues.{has_wants, with_wants, dequeue_fault}
use Rattle.lock_queue.specs.Keys.{same_key}
use Rattle.lock_queue.specs.Queue.{names, requests_of, wants_of, all_wants}
use Rattle.lock_queue.specs.Unused.{unused_want}
use Rattle.lock_queue.specs.WellFormed.{are_apart, is_well_formed}
use Rattle.lock_queue.proofs.Fitting.{eq-same_key, names-found, same_key-eq, same_key-swap, names-Has}
use Rattle.key_queues.specs.declared.entry.Entry.{Entry}
use Rattle.key_queues.specs.declared.found.Found.{Found}
use Rattle.key_queues.specs.declared.lock.Lock.{Lock}
use Rattle.key_queues.specs.Locks.{lock_at}
use Rattle.key_queues.specs.Stores.{Stored, entry_at, without_slot}
use Rattle.lock_table.specs.TableStates.{own_at, state_of}
use Rattle.key_queues.specs.States.{State, IsTable, LosesWant, in_use}
use Rattle.key_queues.specs.Tables.{is_there, QueuesOf, AreDistinct, slots_at}
use Rattle.key_queues.proofs.Using.{position_found, as_many_queues, kept_there, there_at, there_kept}
use Rattle.lock_table.specs.Arrivals.{no_found}
use Rattle.lock_table.specs.Reads.{request_at}
use Rattle.lock_table.specs.Departures.{without_key, IsWantOf, IsLeft, left_named, IsSoleNamed, stays_beside}
use Rattle.key_queues.specs.LockUse.{in_use_for}
use Rattle.lock_table.proofs.Arriving.{apart_at}
use Rattle.key_queues.proofs.Finding.{in_use_parts, find_misses}
use Rattle.lock_table.proofs.Altering.{filter_each, in_use_named, found_of_job}
use Rattle.lock_queue.proofs.Lists.{list_all-Has, Has-filter, filter-Has, flat_map-Has, map-Has}
use Rattle.std.proofs.lemmas.List.Folds.{list_any-append}
use Rattle.std.proofs.lemmas.Option.{slice_get-get_or}
use Rattle.lock_queue.specs.declared.refusal.Refusal.{Refusal}
use Rattle.lock_queue.specs.declared.request.Request.{Request}
use Rattle.lock_queue.specs.Outcomes.{first_refusal, or_else, refuse_if}
use Rattle.key_queues.proofs.Keeping.{Has-there}
use Rattle.lock_queue.proofs.Refusing.{or_else-None, refuse_if-None}
use Rattle.key_queues.proofs.Lists.{take_next}
use Rattle.key_queues.proofs.Orders.{filter_same}
use Rattle.lock_table.specs.Whole.{AreRight, JobsAreApart, level_at, requests_in}
use Rattle.lock_table.proofs.Entries.{has_where_named, order_step, left_next, left_none}
use Rattle.lock_queue.specs.declared.refusal.Refusal.TheVariants.{NotPresent}
use Rattle.lock_table.proofs.Queued.{queue_is, queued_is}
use Rattle.lock_table.proofs.Reading.{requests_of_slots}

-- ---- wants are found by their keys and leave

-- without the want of a key, where the keys are apart
pub remove_key : (ws : List Want) (k : ℕ) (key : Key) → are_apart ws ≡ true → k < length ws → (get_or ws k unused_want).key ≡ key
    → remove ws k ≡ filter (λ v. not (same_key key v.key)) ws
remove_key [] k key h lt e = absurd (omega arith)
remove_key (w ∷ ws) zero key h lt e =
    let parts = and_parts (list_all (λ v. not (same_key w.key v.key)) ws) (are_apart ws) h in
    let rest =
    filter_each (λ v. not (same_key key v.key)) ws
    (λ v h. list_all-Has (λ v. not (same_key key v.key)) ws v (subst (λ j. list_all (λ v. not (same_key j v.key)) ws ≡ true) e parts.0) h) in
    grind (arith, eq-same_key key w.key, rest)
remove_key (w ∷ ws) (suc k) key h lt e =
    grind (arith, apart_at (w ∷ ws) zero (suc k) unused_want h (omega arith) lt, same_key-swap key w.key, remove_key ws k key)

-- the k-th want has the key of the k-th queue
key_at : (key : ℕ → Key) (ws : List Want) (ns : List ℕ) (k n : ℕ) → QueuesOf (λ w m. key m ≡ w.key) ws ns → slice_get ns k ≡ Some n
    → (get_or ws k unused_want).key ≡ key n
key_at key [] [] k n q e = cc
key_at key (w ∷ ws) (m ∷ ns) zero n q e = grind arith
key_at key (w ∷ ws) (m ∷ ns) (suc k) n q e = key_at key ws ns k n q.1 e
key_at key [] (m ∷ ns) k n q e = absurd q
key_at key (w ∷ ws) [] k n q e = absurd q

-- which of a request's wants stands in a queue
pub record IsQueuedAt (s : Stored) (locks : List Lock) (p n k : ℕ) : Type 0 where
  pub want : IsWantOf s p (lock_at locks n).key k
  pub own : own_at s p k ≡ n

pub stands_at : (s : Stored) (locks : List Lock) (p n k : ℕ) (f : Entry) (own : List ℕ) → IsTable (state_of s locks) → is_there p s.order ≡ true
    → in_use (lock_at locks n).queue ≡ true → names (entry_at s p).request.wants.items (lock_at locks n).key ≡ true → f ≡ entry_at s p
    → own ≡ f.queues.items → k ≡ position_or_len (λ m. m == n) own → IsQueuedAt s locks p n k
stands_at s locks p n k f own table present in_use_is named read is at =
    let queues = (entry_at s p).queues.items in
    let found = position_found n queues (queued_is s locks n table in_use_is p present ∙ named) in
    let some = slice_get-get_or queues (position_or_len (λ m. m == n) queues) 0 found.0 in
    subst (IsQueuedAt s locks p n)
    (sym (at ∙ ap (position_or_len (λ m. m == n)) (is ∙ ap (λ (v : Entry). v.queues.items) read)))
    (record {
      want = record {
        within = found.0;
        of =
            key_at (λ m. (lock_at locks m).key) (entry_at s p).request.wants.items queues (position_or_len (λ m. m == n) queues) n
            (table.kept.queues p present) found.1;
      };
      own = cc (some, found.1);
    })

module _ (store : Stored) (locks : List Lock) (p : ℕ) (key : Key) where
  pub key_lost : IsTable (state_of store locks) → is_there p store.order ≡ true → names (entry_at store p).request.wants.items key ≡ true
      → ((n : ℕ) → in_use_for key (lock_at locks n) ≡ false) → ⊥
  key_lost table present named none =
      let m = in_use_named store locks p key table.kept present named in
      both_ways _ (none m.0) m.1

-- what is left of a request that gave up the want of a key
pub key_given : (store later : Stored) (locks more : List Lock) (p k : ℕ) (key : Key) → IsTable (state_of store locks) → is_there p store.order ≡ true
    → IsWantOf store p key k → LosesWant (state_of store locks) (state_of later more) p k → (entry_at later p).request ≡ without_key key (entry_at store p).request
key_given store later locks more p k key table present want lost =
    let s : State = state_of store locks in
    let few = as_many_queues (λ w n. s.key n ≡ w.key) (s.at p).wants.items (s.own p) (table.kept.queues p present) in
    lost.left
    ∙ ap (with_wants (entry_at store p).request)
    (remove_key (entry_at store p).request.wants.items k key (table.kept.apart p) (omega (arith, want.within, few)) want.of)

-- a request without wants has no queues
pub none_left : (store : Stored) (locks : List Lock) (p : ℕ) → IsTable (state_of store locks) → is_there p store.order ≡ true
    → has_wants (entry_at store p).request ≡ false → length (entry_at store p).queues.items ≡ 0
none_left store locks p table present none =
    let few = as_many_queues (λ w n. (lock_at locks n).key ≡ w.key) (entry_at store p).request.wants.items (entry_at store p).queues.items (table.kept.queues p present) in
    grind (arith, few)

-- ---- a job gives up keys

-- what holds of each want where none is refused
pub passes_at : (fault : List Want → Want → Option Refusal) (e ws : List Want) (i : ℕ) → first_refusal fault e ws ≡ None → i < length ws
    → fault (e ++ take i ws) (get_or ws i unused_want) ≡ None
passes_at fault e [] i h lt = absurd (omega arith)
passes_at fault e (w ∷ ws) zero h lt = subst (λ l. fault l w ≡ None) (sym (append-nil e)) (or_else-None _ _ h).0
passes_at fault e (w ∷ ws) (suc i) h lt =
    subst (λ l. fault l (get_or ws i unused_want) ≡ None) (append_assoc e (w ∷ []) (take i ws))
    (passes_at fault (e ++ w ∷ []) ws i (or_else-None _ _ h).1 (omega arith))

-- a job's request with a want of a key
pub record HasKey (s : Stored) (job : ℕ) (key : Key) : Type 0 where
  pub slot : ℕ
  pub present : is_there slot s.order ≡ true
  pub job_is : (request_at s slot).job ≡ job
  pub named : names (request_at s slot).wants.items key ≡ true

pub has_key : (s : Stored) (job : ℕ) (key : Key) → names (wants_of (requests_in s) job) key ≡ true → HasKey s job key
has_key s job key h =
    let want = names-found (wants_of (requests_in s) job) key h in
    let request = flat_map-Has (λ (r : Request). r.wants.items) (requests_of (requests_in s) job) want.0 want.1 in
    let mine = filter-Has (λ (r : Request). r.job == job) (requests_in s) request.0 request.1 in
    let slot = map-Has (request_at s) s.order request.0 mine.1 in
    record {
      slot = slot.0;
      present = Has-there s.order slot.0 slot.1;
      job_is = ap (λ (r : Request). r.job) slot.2 ∙ eqb-true request.0.job job mine.0;
      named = subst (λ (r : Request). names r.wants.items key ≡ true) (sym slot.2) (names-Has request.0.wants.items key want.0 request.2 want.2);
    }

-- the first slot of a job's request among those of a key
module _ (s : Stored) (job : ℕ) (key : Key) (slots : List ℕ) (of : slots ≡ slots_at (request_at s) s.order key) where
  key_there : All (λ x. is_there x s.order ≡ true) slots
  key_there k d lt =
      let x : ℕ = get_or slots k d in
      (there_kept (λ y. names (request_at s y).wants.items key) x s.order (subst (λ l. is_there x l ≡ true) of (there_at slots k d lt))).0

  found_slot : (p : ℕ) → find (λ q. (request_at s q).job == job) slots ≡ Some p
      → (is_there p s.order ≡ true) × ((request_at s p).job ≡ job) × (names (request_at s p).wants.items key ≡ true)
  found_slot p at =
      let found = found_of_job s job slots p at in
      let both = there_kept (λ y. names (request_at s y).wants.items key) p s.order (subst (λ l. is_there p l ≡ true) of found.0) in
      (both.0, found.1, both.1)

  not_missed : HasKey s job key → find (λ q. (request_at s q).job == job) slots ≡ None → ⊥
  not_missed h none =
      let there = ap (is_there h.slot) of ∙ kept_there (λ y. names (request_at s y).wants.items key) h.slot s.order h.present h.named in
      both_ways ((request_at s h.slot).job == job) (find_misses (λ q. (request_at s q).job == job) slots h.slot none there)
      (eq-eqb (request_at s h.slot).job job h.job_is)

-- a key that is given up is of a request of the job, and was not given up before
pub record IsNext (s : Stored) (job : ℕ) (named : List Want) (i : ℕ) (w : Want) : Type 0 where
  pub has : HasKey s job w.key
  pub new : names (take i named) w.key ≡ false
  pub more : take (i + 1) named ≡ take i named ++ w ∷ []

pub is_next : (s : Stored) (job : ℕ) (named : List Want) (i : ℕ) → first_refusal (dequeue_fault (requests_in s) job) [] named ≡ None
    → i < length named → IsNext s job named i (get_or named i unused_want)
is_next s job named i passed lt =
    let both = or_else-None _ _ (passes_at (dequeue_fault (requests_in s) job) [] named i passed lt) in
    record {
      has = has_key s job (get_or named i unused_want).key (not-false _ (refuse_if-None _ _ both.1));
      new = refuse_if-None _ _ both.0;
      more = take_next named i (get_or named i unused_want) (slice_get-get_or named i unused_want lt);
    }

-- it is none of the keys that come later
pub named_apart : (named : List Want) (i j : ℕ) → i < j → j < length named → (key : Key) → names (take j named) key ≡ false
    → same_key (get_or named i unused_want).key key ≡ false
named_apart [] i j lt within key new = absurd (omega arith)
named_apart (w ∷ named) i zero lt within key new = absurd (omega arith)
named_apart (w ∷ named) zero (suc j) lt within key new = grind (arith, new)
named_apart (w ∷ named) (suc i) (suc j) lt within key new = grind (arith, new, named_apart named i j)

-- wants of other keys stay
names_left : (ws named : List Want) (key : Key) → names ws key ≡ true → names named key ≡ false → names (filter (λ w. not (names named w.key)) ws) key ≡ true
names_left ws named key h new =
    let of = names-found ws key h in
    let passes : not (names named of.0.key) ≡ true = ap not (subst (λ k. names named k ≡ false) (sym of.2) new) in
    names-Has (filter (λ w. not (names named w.key)) ws) key of.0 (Has-filter (λ w. not (names named w.key)) ws of.0 passes of.1) of.2

-- what is left has no other wants
names_fewer : (test : Want → Bool) (ws : List Want) (key : Key) → names (filter test ws) key ≡ true → names ws key ≡ true
names_fewer test ws key h =
    let of = names-found (filter test ws) key h in
    names-Has ws key of.0 (filter-Has test ws of.0 of.1).1 of.2

pub fewer_named : (s : Stored) (job : ℕ) (named : List Want) (x : ℕ) (key : Key) → names (left_named s job named x).wants.items key ≡ true
    → names (request_at s x).wants.items key ≡ true
fewer_named s job named x key h = grind (arith, names_fewer (λ w. not (names named w.key)) (request_at s x).wants.items key)

pub job_named : (s : Stored) (job : ℕ) (named : List Want) (x : ℕ) → (left_named s job named x).job ≡ (request_at s x).job
job_named s job named x = grind arith

-- the wants of a key that is not given up stay
own_left : (ws named : List Want) (key : Key) → names named key ≡ false
    → filter (λ w. same_key w.key key) (filter (λ w. not (names named w.key)) ws) ≡ filter (λ w. same_key w.key key) ws
own_left [] named key new = refl
own_left (w ∷ ws) named key new = grind (arith, same_key-eq w.key key, own_left ws named key new)

pub level_named : (s : Stored) (job : ℕ) (named : List Want) (x : ℕ) (key : Key) → names (left_named s job named x).wants.items key ≡ true
    → level_at (left_named s job named x) key ≡ level_at (request_at s x) key
level_named s job named x key h =
    let found = names-found (left_named s job named x).wants.items key h in
    grind (arith, found, filter-Has (λ w. not (names named w.key)) (request_at s x).wants.items found.0, own_left (request_at s x).wants.items named key, append-nil)

pub still_named : (s : Stored) (job : ℕ) (named : List Want) (x : ℕ) (key : Key) → names (request_at s x).wants.items key ≡ true → names named key ≡ false
    → names (left_named s job named x).wants.items key ≡ true
still_named s job named x key h new = grind (arith, names_left (request_at s x).wants.items named key h new)

-- one key more
filter_more : (named : List Want) (w : Want) (ws : List Want)
    → filter (λ v. not (names (named ++ w ∷ []) v.key)) ws ≡ filter (λ v. not (same_key w.key v.key)) (filter (λ v. not (names named v.key)) ws)
filter_more named w [] = refl
filter_more named w (v ∷ ws) = grind (arith, list_any-append (λ (u : Want). same_key u.key v.key) named (w ∷ []), filter_more named w ws)

left_more : (s : Stored) (job : ℕ) (named : List Want) (w : Want) (x : ℕ)
    → left_named s job (named ++ w ∷ []) x ≡ cond ((request_at s x).job == job) (without_key w.key (left_named s job named x)) (request_at s x)
left_more s job named w x = grind (arith, filter_more named w (request_at s x).wants.items)

-- a key that is not named leaves all wants
filter_none : (key : Key) (ws : List Want) → names ws key ≡ false → filter (λ v. not (same_key key v.key)) ws ≡ ws
filter_none key ws none =
    filter_each (λ v. not (same_key key v.key)) ws (λ v h. ap not (false_from_ne_true (same_key key v.key)
    (λ t. both_ways (names ws key) none (names-Has ws key v h (sym (same_key-eq key v.key t))))))

module _ (s : Stored) (job : ℕ) (named : List Want) (w : Want) (p : ℕ) where
  pub left_mine : (request_at s p).job ≡ job → left_named s job (named ++ w ∷ []) p ≡ without_key w.key (left_named s job named p)
  left_mine mine = left_more s job named w p ∙ grind arith

  pub left_other : JobsAreApart s → is_there p s.order ≡ true → (request_at s p).job ≡ job → names (request_at s p).wants.items w.key ≡ true
      → (x : ℕ) → is_there x s.order ≡ true → x ≢ p → left_named s job (named ++ w ∷ []) x ≡ left_named s job named x
  left_other apart here mine has x there ne = left_more s job named w x ∙ grind (arith, apart x p w.key there here, fewer_named s job named x w.key, filter_none w.key (left_named s job named x).wants.items, eqb-true (request_at s x).job job)

-- one step of the loop
module _ (s t u : Stored) (job i : ℕ) (named : List Want) (w : Want) (next : IsNext s job named i w) (once : AreDistinct s.order)
    (left : IsLeft s t (left_named s job (take i named)) (λ x. has_wants (left_named s job (take i named) x))) where
  next_present : HasKey t job w.key
  next_present =
      let h = next.has in
      let still = still_named s job (take i named) h.slot w.key h.named next.new in
      let stays = has_where_named (left_named s job (take i named) h.slot) w.key still in
      let present : is_there h.slot t.order ≡ true =
      ap (is_there h.slot) left.order ∙ kept_there (λ x. has_wants (left_named s job (take i named) x)) h.slot s.order h.present stays in
      let is = left.left h.slot present in
      record { slot = h.slot; present = present; job_is = grind (arith, is, job_named s job (take i named) h.slot, h.job_is); named = grind (arith, is, still) }

  pub next_left : (p : ℕ) → JobsAreApart s → is_there p t.order ≡ true → (request_at t p).job ≡ job → names (request_at t p).wants.items w.key ≡ true
      → (is_there p u.order ≡ true → (entry_at u p).request ≡ without_key w.key (entry_at t p).request)
      → ((x : ℕ) → (x ≡ p → ⊥) → (entry_at u x).request ≡ (entry_at t x).request)
      → u.order ≡ cond (has_wants (without_key w.key (entry_at t p).request)) t.order (without_slot t.order p)
      → IsLeft s u (left_named s job (take (i + 1) named)) (λ x. has_wants (left_named s job (take (i + 1) named) x))
  next_left p apart present mine has given others order = record {
    order = new_order;
    left =
        λ x h.
        elim (cases_eq x p) [
          | inl e ↦
              subst (λ z. (entry_at u z).request ≡ f2 z) (sym e)
              (given (subst (λ z. is_there z u.order ≡ true) e h) ∙ ap (without_key w.key) (left.left p present) ∙ sym at_p)
          | inr ne ↦
              let both = there_kept u2 x s.order (subst (λ l. is_there x l ≡ true) new_order h) in
              let same : f2 x ≡ f1 x = other x both.0 ne in
              let was : is_there x t.order ≡ true =
              ap (is_there x) left.order ∙ kept_there t1 x s.order both.0 (ap (λ (r : Request). has_wants r) (sym same) ∙ both.1) in
              others x ne ∙ left.left x was ∙ sym same
        ];
  }
    where
      f1 : ℕ → Request
      f1 = left_named s job (take i named)

      f2 : ℕ → Request
      f2 = left_named s job (take (i + 1) named)

      t1 : ℕ → Bool
      t1 x = has_wants (f1 x)

      u2 : ℕ → Bool
      u2 x = has_wants (f2 x)

      there : (is_there p s.order ≡ true) × (t1 p ≡ true)
      there = there_kept t1 p s.order (subst (λ l. is_there p l ≡ true) left.order present)

      mine_s : (request_at s p).job ≡ job
      mine_s = sym (job_named s job (take i named) p) ∙ sym (ap (λ (r : Request). r.job) (left.left p present)) ∙ mine

      has_s : names (request_at s p).wants.items w.key ≡ true
      has_s = fewer_named s job (take i named) p w.key (subst (λ (r : Request). names r.wants.items w.key ≡ true) (left.left p present) has)

      at_p : f2 p ≡ without_key w.key (f1 p)
      at_p = ap (λ l. left_named s job l p) next.more ∙ left_mine s job (take i named) w p mine_s

      other : (x : ℕ) → is_there x s.order ≡ true → x ≢ p → f2 x ≡ f1 x
      other x h ne = ap (λ l. left_named s job l x) next.more ∙ left_other s job (take i named) w p apart there.0 mine_s has_s x h ne

      -- the tests, of the slots that are there
      t3 : ℕ → Bool
      t3 x = is_there x s.order && t1 x

      u3 : ℕ → Bool
      u3 x = is_there x s.order && u2 x

      same_test : (x : ℕ) → x ≢ p → t3 x ≡ u3 x
      same_test x ne = grind (arith, other x)

      within : (t4 : ℕ → Bool) → filter t4 s.order ≡ filter (λ x. is_there x s.order && t4 x) s.order
      within t4 = filter_same t4 (λ x. is_there x s.order && t4 x) s.order (λ x h. sym (ap (λ b. b && t4 x) h))

      at_once : u3 p ≡ has_wants (without_key w.key (entry_at t p).request)
      at_once =
          ap (λ b. b && u2 p) there.0
          ∙ ap (λ (r : Request). has_wants r) (at_p ∙ ap (without_key w.key) (sym (left.left p present)))

      new_order : u.order ≡ filter u2 s.order
      new_order =
          order_step t3 u3 p s.order t.order u.order once (left.order ∙ within t1)
          (order ∙ ap (λ b. cond b t.order (without_slot t.order p)) (sym at_once))
          (ap (λ b. b && t1 p) there.0 ∙ there.1) same_test
          ∙ sym (within u2)

-- a request that is right has wants
pub some_wants : (r : Request) → is_well_formed r ≡ true → has_wants r ≡ true
some_wants r h = grind arith

-- where nothing was given up yet
pub left_start : (s : Stored) (job : ℕ) → AreRight s → IsLeft s s (left_named s job []) (λ x. has_wants (left_named s job [] x))
left_start s job right = record {
  order =
      sym (filter_each (λ x. has_wants (left_named s job [] x)) s.order
      (λ x h. ap (λ (r : Request). has_wants r) (same x) ∙ some_wants (request_at s x) (right x (Has-there s.order x h))));
  left = λ x h. sym (same x);
}
  where
    same : (x : ℕ) → left_named s job [] x ≡ request_at s x
    same x = grind (arith, filter_each (λ w. not (names [] w.key)) (request_at s x).wants.items (λ w h. refl))

-- ---- a job's only request leaves, whose only want is the only one that is named

-- the only want is given up
only_given : (ws : List Want) (w : Want) → length ws ≡ 1 → names ws w.key ≡ true → filter (λ v. not (names (w ∷ []) v.key)) ws ≡ []
only_given [] w one h = absurd (omega arith)
only_given (v ∷ []) w one h = grind (arith, same_key-swap v.key w.key)
only_given (v ∷ u ∷ ws) w one h = absurd (omega arith)

module _ (s : Stored) (job : ℕ) (named : List Want) (p : ℕ) (is : IsSoleNamed s job named p) where
  both : (is_there p s.order ≡ true) × (((request_at s p).job == job) ≡ true)
  both = grind (arith, is.sole.own, there_kept (λ x. (request_at s x).job == job) p s.order)

  -- the others are of other jobs
  others_of : (x : ℕ) → is_there x s.order ≡ true → x ≢ p → ((request_at s x).job == job) ≡ false
  others_of x there ne = grind (arith, is.sole.own, kept_there (λ y. (request_at s y).job == job) x s.order there)

  mine_left : has_wants (left_named s job named p) ≡ false
  mine_left = grind (arith, both, is.named_is, only_given (request_at s p).wants.items is.want is.sole.one is.sole.named)

  other_left : (x : ℕ) → is_there x s.order ≡ true → x ≢ p → left_named s job named x ≡ request_at s x
  other_left x there ne = grind (arith, others_of x there ne)

  pub sole_left : (t : Stored) → AreRight s → AreDistinct s.order → t.order ≡ without_slot s.order p
      → ((x : ℕ) → (x ≡ p → ⊥) → (entry_at t x).request ≡ (entry_at s x).request) → IsLeft s t (left_named s job named) (λ x. has_wants (left_named s job named x))
  sole_left t right once order others = record {
    order = left.order ∙ filter_same (stays_beside (p ∷ [])) (λ x. has_wants (left_named s job named x)) s.order stays;
    left =
        λ x h.
        let kept = there_kept (stays_beside (p ∷ [])) x s.order (subst (λ l. is_there x l ≡ true) left.order h) in
        left.left x h ∙ sym (other_left x kept.0 (λ e. beside_not x e kept.1));
  }
    where
      left : IsLeft s t (request_at s) (stays_beside (p ∷ []))
      left = left_next s s t [] p once (left_none s) order once others

      beside_not : (x : ℕ) → x ≡ p → stays_beside (p ∷ []) x ≡ true → ⊥
      beside_not x e h = grind arith

      stays : (x : ℕ) → is_there x s.order ≡ true → stays_beside (p ∷ []) x ≡ has_wants (left_named s job named x)
      stays x there = grind (arith, other_left x there, mine_left, some_wants (request_at s x) (right x there))

  -- the call is not refused
  pub sole_passes : first_refusal (dequeue_fault (requests_in s) job) [] named ≡ None
  sole_passes =
      ap (first_refusal (dequeue_fault (requests_in s) job) []) is.named_is
      ∙ ap (λ b. or_else (refuse_if (not b) NotPresent) None) has
    where
      has : names (wants_of (requests_in s) job) is.want.key ≡ true
      has =
          ap (λ l. names (all_wants l) is.want.key) (requests_of_slots (request_at s) s.order job ∙ ap (map (request_at s)) is.sole.own)
          ∙ ap (λ l. names l is.want.key) (append-nil (request_at s p).wants.items) ∙ is.sole.named

-- what is known of a key that is given up next: the lock that was found for it, and the slot of the job's request in its queue
pub record GivesUpNamed (s t : Stored) (locks : List Lock) (job i : ℕ) (named : List Want) (n : ℕ) (slots : List ℕ) : Type 0 where
  pub in_use_is : in_use (lock_at locks n).queue ≡ true
  pub key_is : (lock_at locks n).key ≡ (get_or named i unused_want).key
  pub next : IsNext s job named i (get_or named i unused_want)
  pub there : All (λ x. is_there x t.order ≡ true) slots
  pub at : (p : ℕ) → find (λ q. (request_at t q).job == job) slots ≡ Some p
      → (is_there p t.order ≡ true) × ((request_at t p).job ≡ job) × (names (request_at t p).wants.items (get_or named i unused_want).key ≡ true)
  pub missed : find (λ q. (request_at t q).job == job) slots ≡ None → ⊥

pub gives_up_named : (s t : Stored) (locks more : List Lock) (l : Lock) (job i : ℕ) (named : List Want) (found : List Found) (n : ℕ) (slots : List ℕ)
    → IsTable (state_of s locks) → first_refusal (dequeue_fault (requests_in s) job) [] named ≡ None → i < length named → IsTable (state_of t more)
    → IsLeft s t (left_named s job (take i named)) (λ x. has_wants (left_named s job (take i named) x)) → ((j : ℕ) → i ≤ j → j < length named
    → IfSome (get_or found j no_found).number (λ m. in_use_for (get_or named j unused_want).key (lock_at more m) ≡ true))
    → (get_or found i no_found).number ≡ Some n → l ≡ lock_at more n → slots ≡ l.queue.slots → GivesUpNamed s t more job i named n slots
gives_up_named s t locks more l job i named found n slots was passed lt table left in_use_still number read is =
    let key : Key = (get_or named i unused_want).key in
    let in_use_for : in_use_for key (lock_at more n) ≡ true =
    subst (λ o. IfSome o (λ m. in_use_for key (lock_at more m) ≡ true)) number (in_use_still i (omega arith) lt) in
    let parts = in_use_parts key (lock_at more n) in_use_for in
    let next = is_next s job named i passed lt in
    let of =
    is ∙ ap (λ (v : Lock). v.queue.slots) read ∙ (queue_is t more n table parts.0).slots
    ∙ ap (λ (k : Key). slots_at (request_at t) t.order k) parts.1 in
    record {
      in_use_is = parts.0;
      key_is = parts.1;
      next = next;
      there = key_there t job key slots of;
      at = found_slot t job key slots of;
      missed = not_missed t job key slots of (next_present s t t job i named (get_or named i unused_want) next was.kept.once left);
    }
