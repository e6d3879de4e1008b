-- The wants of a key stand in the queue of its lock in use.
use Rattle.std.proofs.Common.{◌≡◌, ◌<◌, ◌∙◌, sym, ap, subst, ℕ, Bool, true, false, ◌&&◌, ◌==◌, List, [], ◌∷◌, length, get_or, filter, map, is_some, refl, arith}
use Rattle.std.specs.List.{All, find, list_all, list_any, position_or_len}
use Rattle.std.proofs.lemmas.Bool.{or_right}
use Rattle.std.proofs.lemmas.List.Folds.{list_any-append}
use Rattle.lock_queue.specs.declared.key.Key.{Key}
use Rattle.lock_queue.specs.declared.request.Request.{Request}
use Rattle.lock_queue.specs.declared.want.Want.{Want}
use Rattle.lock_queue.specs.Keys.{same_key}
use Rattle.lock_queue.specs.Queue.{is_pooled, names, requests_of, wants_at, wants_of}
use Rattle.lock_queue.specs.Unused.{unused_want}
use Rattle.lock_queue.proofs.Fitting.{names-found}
use Rattle.lock_queue.proofs.Lists.{Has}
use Rattle.key_queues.specs.declared.lock.Lock.{Lock}
use Rattle.key_queues.specs.Beginnings.{is_share_of}
use Rattle.key_queues.specs.Locks.{lock_at}
use Rattle.key_queues.specs.States.{IsTable, in_use}
use Rattle.key_queues.specs.Tables.{IsAt, is_there, slots_at}
use Rattle.key_queues.proofs.Counted.{want_of, wants_by_slots}
use Rattle.key_queues.proofs.Fronts.{one_of_key}
use Rattle.key_queues.proofs.Using.{kept_there, named_there, queue_of_want, there_at, there_kept, want_at_queue}
use Rattle.key_queues.specs.Stores.{Stored, entry_at, slots_of}
use Rattle.lock_table.specs.TableStates.{state_of, queued_want}
use Rattle.lock_table.specs.Reads.{request_at, is_job_queued_at}
use Rattle.lock_table.specs.Whole.{requests_in}
use Rattle.lock_table.proofs.Reading.{any_kept, in_use_at, present_at, requests_of_slots, unused_at}
use Rattle.lock_table.proofs.Telling.{any_among, any_mapped}
use Rattle.key_queues.specs.LockUse.{in_use_for}

-- what a test finds of those that another keeps
any_filter : (f g t : ℕ → Bool) (xs : List ℕ) → ((x : ℕ) → is_there x xs ≡ true → f x ≡ g x) → ((x : ℕ) → g x ≡ true → t x ≡ true)
    → list_any f (filter t xs) ≡ list_any g xs
any_filter f g t [] same within = refl
any_filter f g t (x ∷ xs) same within =
    let rest = any_filter f g t xs (λ y h. same y (or_right (x == y) (is_there y xs) h)) within in
    grind (arith, rest, same x, within x)

-- what two tests find that say the same, and what is found by one
any_each : (f g : ℕ → Bool) (xs : List ℕ) → ((x : ℕ) → is_there x xs ≡ true → f x ≡ g x) → list_any f xs ≡ list_any g xs
any_each f g [] same = refl
any_each f g (x ∷ xs) same =
    let rest = any_each f g xs (λ y h. same y (or_right (x == y) (is_there y xs) h)) in
    grind (arith, rest, same x)

found_any : (t : ℕ → Bool) (xs : List ℕ) → is_some (find t xs) ≡ list_any t xs
found_any t [] = refl
found_any t (x ∷ xs) = grind (arith, found_any t xs)

-- whether a job has a want of a key, request by request
names_by : (at : ℕ → Request) (order : List ℕ) (job : ℕ) (key : Key)
    → names (wants_of (map at order) job) key ≡ list_any (λ p. (at p).job == job && names (at p).wants.items key) order
names_by at [] job key = refl
names_by at (p ∷ order) job key = grind (arith, names_by at order job key, list_any-append)

-- one result for all
any_alike : (t : ℕ → Bool) (b : Bool) (xs : List ℕ) → ((x : ℕ) → is_there x xs ≡ true → t x ≡ b) → list_any (λ x. true) xs ≡ true → list_any t xs ≡ b
any_alike t b [] same some = cc
any_alike t b (x ∷ []) same some = grind (arith, same x)
any_alike t b (x ∷ y ∷ xs) same some =
    let rest = any_alike t b (y ∷ xs) (λ z h. same z (or_right (x == z) (is_there z (y ∷ xs)) h)) refl in
    grind (arith, rest, same x)

-- what passes at each
pub all_mapped : (test : Want → Bool) (f : ℕ → Want) (xs : List ℕ) (x : ℕ) → list_all test (map f xs) ≡ true → is_there x xs ≡ true → test (f x) ≡ true
all_mapped test f [] x all there = cc
all_mapped test f (y ∷ xs) x all there = grind (arith, all_mapped test f xs x)

pub mapped_all : (test : Want → Bool) (f : ℕ → Want) (xs : List ℕ) → ((x : ℕ) → is_there x xs ≡ true → test (f x) ≡ true) → list_all test (map f xs) ≡ true
mapped_all test f [] each = refl
mapped_all test f (y ∷ xs) each =
    let rest = mapped_all test f xs (λ x h. each x (or_right (y == x) (is_there x xs) h)) in
    grind (arith, rest, each y)

-- where no lock of a key is in use, nobody wants it
module _ (s : Stored) (locks : List Lock) (key : Key) (t : IsTable (state_of s locks))
    (unused : (n : ℕ) → in_use_for key (lock_at locks n) ≡ false) where
  pub unwanted_at : wants_at (requests_in s) key ≡ []
  unwanted_at = wants_by_slots (request_at s) t.kept.apart s.order key ∙ ap (map (λ p. want_of key (request_at s p))) (unused_at (state_of s locks) key t unused)

  pub unwanted_by : (job : ℕ) → names (wants_of (requests_in s) job) key ≡ false
  unwanted_by job =
      let own : ℕ → Bool = λ p. (request_at s p).job == job && names (request_at s p).wants.items key in
      names_by (request_at s) s.order job key
      ∙ sym (any_filter own own (λ p. names (request_at s p).wants.items key) s.order (λ p h. refl) (λ p h. grind (arith, h)))
      ∙ ap (list_any own) (unused_at (state_of s locks) key t unused)

module _ (s : Stored) (locks : List Lock) (n : ℕ) (t : IsTable (state_of s locks)) (in_use_is : in_use (lock_at locks n).queue ≡ true) where
  abbrev key : Key
  key = (lock_at locks n).key

  pub queue_is : IsAt (request_at s) s.order key (lock_at locks n).size (lock_at locks n).queue
  queue_is = in_use_at (state_of s locks) n t in_use_is

  -- a request with a want of the key stands in the queue
  there_is : (p : ℕ) → is_there p s.order ≡ true → names (request_at s p).wants.items key ≡ true → is_there n (entry_at s p).queues.items ≡ true
  there_is p present named =
      let used = t.used n in_use_is in
      let of = names-found (request_at s p).wants.items key named in
      let m = queue_of_want (λ m. (lock_at locks m).key) (request_at s p).wants.items (entry_at s p).queues.items of.0 (t.kept.queues p present) of.1 in
      let same : m.0 ≡ n = t.kept.one p m.0 used.slot n (record { present = present; there = m.1 }) used.stands (m.2 ∙ of.2) in
      subst (λ k. is_there k (entry_at s p).queues.items ≡ true) same m.1

  -- and no other does
  pub queued_is : (p : ℕ) → is_there p s.order ≡ true → is_there n (entry_at s p).queues.items ≡ names (request_at s p).wants.items key
  queued_is p present =
      grind (arith, there_is p present, named_there (λ m. (lock_at locks m).key) (request_at s p).wants.items (entry_at s p).queues.items n (t.kept.queues p present))

  pub all_present : All (λ p. is_there p s.order ≡ true) (lock_at locks n).queue.slots
  all_present = present_at (λ x. names (request_at s x).wants.items key) s.order (lock_at locks n).queue.slots queue_is.slots

  pub first_there : is_there (get_or (lock_at locks n).queue.slots 0 0) (lock_at locks n).queue.slots ≡ true
  first_there = there_at (lock_at locks n).queue.slots 0 0 (grind (arith, in_use_is))

  module _ (p : ℕ) (queued : is_there p (lock_at locks n).queue.slots ≡ true) where
    pub there_parts : (is_there p s.order ≡ true) × (names (request_at s p).wants.items key ≡ true)
    there_parts = there_kept (λ x. names (request_at s x).wants.items key) p s.order (subst (λ l. is_there p l ≡ true) queue_is.slots queued)

    at : (position_or_len (λ m. m == n) (entry_at s p).queues.items < length (request_at s p).wants.items)
        × Has (request_at s p).wants.items (queued_want s p n) × ((queued_want s p n).key ≡ key)
    at =
        want_at_queue (λ m. (lock_at locks m).key) (request_at s p).wants.items (entry_at s p).queues.items n (t.kept.queues p there_parts.0)
        (there_is p there_parts.0 there_parts.1)

    pub want_within : position_or_len (λ m. m == n) (entry_at s p).queues.items < length (request_at s p).wants.items
    want_within = at.0

    -- its want in the queue is its want of the key
    pub want_is : queued_want s p n ≡ want_of key (request_at s p)
    want_is =
        sym (ap (λ l. get_or l 0 unused_want)
        (subst (λ k. filter (λ v. same_key v.key k) (request_at s p).wants.items ≡ queued_want s p n ∷ []) at.2
        (one_of_key (request_at s p).wants.items (queued_want s p n) (t.kept.apart p) at.1)))

    -- which is of the queue's pool
    pub share_is : is_share_of (lock_at locks n).size (want_of key (request_at s p)).pool ≡ true
    share_is =
        all_mapped (λ w. is_share_of (lock_at locks n).size w.pool) (λ x. want_of key (request_at s x)) (slots_at (request_at s) s.order key) p
        (subst (λ l. list_all (λ w. is_share_of (lock_at locks n).size w.pool) l ≡ true) (wants_by_slots (request_at s) t.kept.apart s.order key)
        queue_is.queue.counts.alike.each)
        (subst (λ l. is_there p l ≡ true) queue_is.slots queued)

  -- a job has a want of the key where a request among some slots, with all of the job's, stands in the queue
  module _ (job : ℕ) where
    wanted_among : (test : ℕ → Bool) → ((p : ℕ) → ((request_at s p).job == job && names (request_at s p).wants.items key) ≡ true → test p ≡ true)
        → list_any (is_job_queued_at s job n) (filter test s.order) ≡ names (wants_of (requests_in s) job) key
    wanted_among test within =
        any_filter (is_job_queued_at s job n) (λ p. (request_at s p).job == job && names (request_at s p).wants.items key) test s.order
        (λ p present. ap (λ b. (request_at s p).job == job && b) (queued_is p present)) within
        ∙ sym (names_by (request_at s) s.order job key)

    pub wanted_at_slots : list_any (is_job_queued_at s job n) (lock_at locks n).queue.slots ≡ names (wants_of (requests_in s) job) key
    wanted_at_slots =
        ap (list_any (is_job_queued_at s job n)) queue_is.slots
        ∙ wanted_among (λ p. names (request_at s p).wants.items key) (λ p h. grind (arith, h))

    -- which is where one of the queue's slots is the job's
    pub wanted_by_slot : is_some (find (λ p. (request_at s p).job == job) (lock_at locks n).queue.slots) ≡ names (wants_of (requests_in s) job) key
    wanted_by_slot =
        found_any (λ p. (request_at s p).job == job) (lock_at locks n).queue.slots
        ∙ any_each (λ p. (request_at s p).job == job) (is_job_queued_at s job n) (lock_at locks n).queue.slots
        (λ p h. let parts = there_parts p h in grind (arith, there_is p parts.0 parts.1))
        ∙ wanted_at_slots

    pub wanted_of_job : list_any (is_job_queued_at s job n) (slots_of s job) ≡ names (wants_of (requests_in s) job) key
    wanted_of_job = wanted_among (λ p. (entry_at s p).request.job == job) (λ p h. grind (arith, h))

    -- and its wants of it are of a pool where the lock is
    pub pooled_is : names (wants_of (requests_in s) job) key ≡ true
        → list_any is_pooled (wants_at (requests_of (requests_in s) job) key) ≡ is_some (lock_at locks n).size
    pooled_is wanted =
        let own : List ℕ = slots_of s job in
        let named : ℕ → Bool = λ p. names (request_at s p).wants.items key in
        let some : list_any (λ x. true) (filter named own) ≡ true =
        sym (any_kept named own) ∙ sym (any_among (λ p. (request_at s p).job == job) named s.order) ∙ sym (names_by (request_at s) s.order job key) ∙ wanted in
        ap (λ l. list_any is_pooled (wants_at l key)) (requests_of_slots (request_at s) s.order job)
        ∙ ap (list_any is_pooled) (wants_by_slots (request_at s) t.kept.apart own key)
        ∙ any_mapped is_pooled (λ p. want_of key (request_at s p)) (filter named own)
        ∙ any_alike (λ p. is_pooled (want_of key (request_at s p))) (is_some (lock_at locks n).size) (filter named own)
        (λ p h.
        let in_own = there_kept named p own h in
        let present = there_kept (λ q. (request_at s q).job == job) p s.order in_own.0 in
        let queued = subst (λ l. is_there p l ≡ true) (sym queue_is.slots) (kept_there named p s.order present.0 in_own.1) in
        grind (arith, share_is p queued)) some
