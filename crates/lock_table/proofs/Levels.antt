-- The wants of a key are of one level and of one pool, so the first tells of all.
use Rattle.std.proofs.Common.{◌≡◌, ◌∙◌, sym, ap, subst, ℕ, Bool, true, List, [], ◌∷◌, filter, get_or, map, append-nil, unwrap_or, arith}
use Rattle.std.specs.List.{list_all}
use Rattle.lock_queue.specs.declared.key.Key.{Key}
use Rattle.lock_queue.specs.declared.request.Request.{Request}
use Rattle.lock_queue.specs.declared.want.Want.{Want}
use Rattle.lock_queue.specs.Enqueues.{are_alike}
use Rattle.lock_queue.specs.Keys.{same_key}
use Rattle.lock_queue.specs.Queue.{names, wants_at}
use Rattle.lock_queue.specs.StatusWords.{first_level}
use Rattle.lock_queue.specs.WellFormed.{are_apart}
use Rattle.lock_queue.proofs.Lists.{Has}
use Rattle.key_queues.specs.States.{IsTable, in_use}
use Rattle.key_queues.specs.Tables.{is_there}
use Rattle.key_queues.proofs.Counted.{own_wants_are, want_of, wants_by_slots}
use Rattle.key_queues.proofs.Fronts.{one_of_key}
use Rattle.key_queues.specs.declared.lock.Lock.{Lock}
use Rattle.key_queues.specs.Stores.{Stored}
use Rattle.lock_table.specs.TableStates.{state_of, queued_want}
use Rattle.lock_table.specs.Reads.{request_at}
use Rattle.lock_table.specs.Whole.{LevelsAgree, level_at, requests_in}
use Rattle.lock_table.proofs.Queued.{first_there, mapped_all, queue_is, share_is, there_parts, want_is}
use Rattle.key_queues.specs.Locks.{lock_at}

-- the level of a request at a key is that of its want of it
pub level_of_want : (r : Request) (key : Key) (w : Want) → are_apart r.wants.items ≡ true → Has r.wants.items w → w.key ≡ key → level_at r key ≡ w.level
level_of_want r key w apart has is =
    ap (λ l. unwrap_or (first_level (filter (λ v. same_key v.key key) l)) 0) (append-nil r.wants.items)
    ∙ ap (λ l. unwrap_or (first_level l) 0) (subst (λ k. filter (λ v. same_key v.key k) r.wants.items ≡ w ∷ []) is (one_of_key r.wants.items w apart has))

-- and so it is of what is read as that want
pub level_of_read : (r : Request) (key : Key) → are_apart r.wants.items ≡ true → names r.wants.items key ≡ true → (want_of key r).level ≡ level_at r key
level_of_read r key apart named = grind (arith, own_wants_are key r apart, named, append-nil r.wants.items)

-- the first tells of all where all are like it
first_tells : (test : Want → Bool) (f : ℕ → Want) (xs : List ℕ) → is_there (get_or xs 0 0) xs ≡ true
    → (test (f (get_or xs 0 0)) ≡ true → list_all test (map f xs) ≡ true) → test (f (get_or xs 0 0)) ≡ list_all test (map f xs)
first_tells test f [] there like = cc
first_tells test f (x ∷ xs) there like = grind (arith, like)

module _ (s : Stored) (locks : List Lock) (n : ℕ) (t : IsTable (state_of s locks)) (in_use_is : in_use (lock_at locks n).queue ≡ true) (w : Want)
    (agree : LevelsAgree s) where
  abbrev key : Key
  key = (lock_at locks n).key

  abbrev of : ℕ → Want
  of x = want_of key (request_at s x)

  abbrev slots : List ℕ
  slots = (lock_at locks n).queue.slots

  like : (p x : ℕ) → is_there p slots ≡ true → is_there x slots ≡ true → are_alike (of p) w ≡ true → are_alike (of x) w ≡ true
  like p x hp hx is =
      let a = there_parts s locks n t in_use_is p hp in
      let b = there_parts s locks n t in_use_is x hx in
      let level : (of x).level ≡ (of p).level =
      level_of_read (request_at s x) key (t.kept.apart x) b.1 ∙ agree x p key b.0 a.0 b.1 a.1
      ∙ sym (level_of_read (request_at s p) key (t.kept.apart p) a.1) in
      grind (arith, level, is, share_is s locks n t in_use_is p hp, share_is s locks n t in_use_is x hx)

  pub first_alike : (lock_at locks n).key ≡ w.key → are_alike (queued_want s (get_or slots 0 0) n) w ≡ list_all (λ v. are_alike v w) (wants_at (requests_in s) w.key)
  first_alike same =
      let first = first_there s locks n t in_use_is in
      let all : wants_at (requests_in s) w.key ≡ map of slots =
      ap (wants_at (requests_in s)) (sym same) ∙ wants_by_slots (request_at s) t.kept.apart s.order key
      ∙ ap (map of) (sym (queue_is s locks n t in_use_is).slots) in
      ap (λ v. are_alike v w) (want_is s locks n t in_use_is (get_or slots 0 0) first)
      ∙ first_tells (λ v. are_alike v w) of slots first
      (λ is. mapped_all (λ v. are_alike v w) of slots (λ x h. like (get_or slots 0 0) x first h is))
      ∙ ap (list_all (λ v. are_alike v w)) (sym all)
