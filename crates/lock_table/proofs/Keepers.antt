-- Who keeps a request from a want, as the want's queue tells.
use Rattle.std.proofs.Common.{◌≡◌, ◌<◌, ◌∙◌, sym, ap, subst, ℕ, zero, suc, Bool, true, ◌&&◌, ◌==◌, not, List, [], ◌∷◌, ◌++◌, length, get_or, filter, inl, inr, refl, arith}
use Rattle.std.specs.List.{All, list_any, position_or_len}
use Rattle.std.proofs.lemmas.List.Elements.{All-take}
use Rattle.std.proofs.lemmas.List.{get_or_read}
use Rattle.lock_queue.specs.declared.want.Want.{Want}
use Rattle.lock_queue.specs.Jobs.{is_in_the_way, is_kept_by}
use Rattle.lock_queue.specs.Queue.{fits, names, requests_of, wants_at}
use Rattle.lock_queue.specs.Unused.{unused_want}
use Rattle.lock_queue.proofs.Fitting.{names-Has}
use Rattle.lock_queue.proofs.Lists.{Has}
use Rattle.key_queues.specs.declared.lock.Lock.{Lock}
use Rattle.key_queues.specs.Locks.{lock_at}
use Rattle.key_queues.specs.States.{IsTable, IsQueued, in_use}
use Rattle.key_queues.specs.Tables.{IsAt, QueuesOf, AreDistinct, is_counted, is_there, slots_at}
use Rattle.key_queues.proofs.Counted.{filter_around, fits_where_counted, not_kept}
use Rattle.key_queues.proofs.Keeping.{split_there}
use Rattle.key_queues.proofs.LockUseLaws.{used_in_use}
use Rattle.key_queues.proofs.Using.{as_many_queues, there_at}
use Rattle.key_queues.specs.Stores.{Stored, entry_at}
use Rattle.lock_table.specs.TableStates.{own_at, state_of, want_at}
use Rattle.lock_table.specs.Reads.{before_of, request_at, requests_at}
use Rattle.lock_table.proofs.Reading.{present_at, in_use_at, wants_at_slots_of}
use Rattle.lock_table.proofs.Telling.{before_is, front_at}

-- the k-th want and the k-th queue
queues_at_k : (R : Want → ℕ → Type 0) (ws : List Want) (ns : List ℕ) (k : ℕ) (v : Want) (d : ℕ) → QueuesOf R ws ns → k < length ws → R (get_or ws k v) (get_or ns k d)
queues_at_k R [] ns k v d q lt = absurd (omega arith)
queues_at_k R (w ∷ ws) (n ∷ ns) zero v d q lt = q.0
queues_at_k R (w ∷ ws) (n ∷ ns) (suc k) v d q lt = queues_at_k R ws ns k v d q.1 (omega arith)
queues_at_k R (w ∷ ws) [] k v d q lt = absurd q

Has-at : (ws : List Want) (k : ℕ) (v : Want) → k < length ws → Has ws (get_or ws k v)
Has-at [] k v lt = absurd (omega arith)
Has-at (w ∷ ws) zero v lt = inl refl
Has-at (w ∷ ws) (suc k) v lt = inr (Has-at ws k v (omega arith))

module _ (s : Stored) (locks : List Lock) (p k : ℕ) (t : IsTable (state_of s locks)) (present : is_there p s.order ≡ true)
    (want : k < length (request_at s p).wants.items) where
  of : QueuesOf (λ w n. (lock_at locks n).key ≡ w.key) (request_at s p).wants.items (entry_at s p).queues.items
  of = t.kept.queues p present

  -- there is a queue for the want
  pub queue_within : k < length (entry_at s p).queues.items
  queue_within = omega (arith, want, as_many_queues (λ w n. (lock_at locks n).key ≡ w.key) (request_at s p).wants.items (entry_at s p).queues.items of)

  stands : IsQueued (state_of s locks) p (own_at s p k)
  stands = record { present = present; there = there_at (entry_at s p).queues.items k 0 queue_within }

  -- the want that is read
  pub want_read : (v : Want) → v ≡ get_or (request_at s p).wants.items k v → v ≡ want_at s p k
  want_read v is = get_or_read (request_at s p).wants.items k v want is unused_want

  -- its lock is in use
  pub lock_in_use : in_use (lock_at locks (own_at s p k)).queue ≡ true
  lock_in_use = used_in_use (state_of s locks) p (own_at s p k) t.kept stands

  abbrev w : Want
  w = want_at s p k

  has : Has (request_at s p).wants.items w
  has = Has-at (request_at s p).wants.items k unused_want want

  -- the queue is that of the want's key
  is : IsAt (request_at s) s.order w.key (lock_at locks (own_at s p k)).size (lock_at locks (own_at s p k)).queue
  is =
      subst (λ key. IsAt (request_at s) s.order key (lock_at locks (own_at s p k)).size (lock_at locks (own_at s p k)).queue)
      (queues_at_k (λ w n. (lock_at locks n).key ≡ w.key) (request_at s p).wants.items (entry_at s p).queues.items k unused_want 0 of want)
      (in_use_at (state_of s locks) (own_at s p k) t lock_in_use)

  split : (before : List ℕ) × (after : List ℕ) × (s.order ≡ before ++ p ∷ after)
  split = split_there p s.order present

  abbrev test : ℕ → Bool
  test x = names (request_at s x).wants.items w.key

  slots : (lock_at locks (own_at s p k)).queue.slots ≡ filter test split.0 ++ p ∷ filter test split.1
  slots =
      is.slots ∙ ap (filter test) split.2
      ∙ filter_around test split.0 split.1 p (names-Has (request_at s p).wants.items w.key w has refl)

  before : before_of (lock_at locks (own_at s p k)).queue.slots p ≡ slots_at (request_at s) (before_of s.order p) w.key
  before =
      ap (λ l. before_of l p) slots
      ∙ front_at (filter test split.0) (filter test split.1) p (not_kept test p split.0 (t.kept.once split.0 split.1 p split.2).0)
      ∙ ap (filter test) (sym (before_is s.order split.0 split.1 p t.kept.once split.2))

  fits_there : fits (requests_at s (before_of s.order p)) w ≡ is_counted (lock_at locks (own_at s p k)).queue p
  fits_there =
      ap (λ l. fits (requests_at s l) w) (before_is s.order split.0 split.1 p t.kept.once split.2)
      ∙ fits_where_counted (request_at s) split.0 split.1 p (lock_at locks (own_at s p k)).size (lock_at locks (own_at s p k)).queue w
      (subst AreDistinct split.2 t.kept.once) t.kept.apart has
      (subst (λ l. IsAt (request_at s) l w.key (lock_at locks (own_at s p k)).size (lock_at locks (own_at s p k)).queue) split.2 is)

  pub kept_is : (job : ℕ) (l : Lock) (v : Want) → l ≡ lock_at locks (own_at s p k) → v ≡ w
      → (not (is_counted l.queue p) && list_any (λ u. is_in_the_way u v) (wants_at (requests_of (requests_at s (before_of l.queue.slots p)) job) v.key))
      ≡ is_kept_by job (requests_at s (before_of s.order p)) w
  kept_is job l v is_l is_v = rw (is_l, is_v, sym fits_there, before, wants_at_slots_of (request_at s) (before_of s.order p) w.key job) refl

  pub before_present : All (λ x. is_there x s.order ≡ true) (before_of (lock_at locks (own_at s p k)).queue.slots p)
  before_present =
      All-take (λ x. is_there x s.order ≡ true) (position_or_len (λ x. x == p) (lock_at locks (own_at s p k)).queue.slots)
      (lock_at locks (own_at s p k)).queue.slots
      (present_at test s.order _ is.slots)
