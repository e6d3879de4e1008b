-- Whether the wants of a call fit is told by the queues of their keys.
use Rattle.std.proofs.Common.{◌≡◌, ◌<◌, ◌∙◌, sym, ap, subst, ℕ, Bool, true, List, [], Option, Some, None, IfSome, get_or, length, refl, arith}
use Rattle.std.specs.List.{list_all}
use Rattle.lock_queue.specs.declared.key.Key.{Key}
use Rattle.lock_queue.specs.declared.want.Want.{Want}
use Rattle.lock_queue.specs.Pools.{PoolShare}
use Rattle.lock_queue.specs.Queue.{fits, fits_beside, wants_at}
use Rattle.lock_queue.specs.Unused.{unused_want}
use Rattle.lock_queue.specs.WellFormed.{is_in_range, is_right_pool}
use Rattle.key_queues.specs.declared.found.Found.{Found}
use Rattle.key_queues.specs.declared.lock.Lock.{Lock}
use Rattle.key_queues.specs.Found.{IsFound}
use Rattle.key_queues.specs.Kept.{fits_last}
use Rattle.key_queues.specs.Locks.{lock_at}
use Rattle.key_queues.specs.States.{IsTable}
use Rattle.key_queues.specs.Stores.{Stored}
use Rattle.key_queues.proofs.Counting.{fits_last_is}
use Rattle.key_queues.proofs.Finding.{found_in_use, in_use_parts}
use Rattle.lock_table.specs.Arrivals.{Admits, AdmitsFrom, AreFound, no_found}
use Rattle.lock_table.specs.TableStates.{state_of}
use Rattle.lock_table.specs.Whole.{requests_in}
use Rattle.lock_table.proofs.Arriving.{all_at}
use Rattle.lock_table.proofs.Queued.{queue_is, unwanted_at}

-- a want that is in range fits where there is no other
alone : (w : Want) (o : Option PoolShare) → is_right_pool o ≡ true → fits_beside [] w o ≡ true
alone w None range = refl
alone w (Some share) range = grind arith

module _ (s : Stored) (locks : List Lock) (table : IsTable (state_of s locks)) where
  fits_known : (w : Want) (seen : Found) (b : Bool) → IsFound locks w.key seen → Admits locks w → is_in_range w ≡ true
      → IfSome seen.number (λ n. b ≡ fits_last (lock_at locks n).queue w) → (seen.number ≡ None → b ≡ true) → b ≡ fits (requests_in s) w
  fits_known w seen b found admits range some none = go seen.number refl
    where
      go : (o : Option ℕ) → seen.number ≡ o → b ≡ fits (requests_in s) w
      go (Some n) e =
          let in_use_for = found_in_use locks w.key seen n found e in
          let parts = in_use_parts w.key (lock_at locks n) in_use_for in
          let is = queue_is s locks n table parts.0 in
          let said : b ≡ fits_last (lock_at locks n).queue w = subst (λ o. IfSome o (λ m. b ≡ fits_last (lock_at locks m).queue w)) e some in
          said
          ∙ fits_last_is (lock_at locks n).size (wants_at (requests_in s) (lock_at locks n).key) (lock_at locks n).queue w is.queue
          (admits.alike n in_use_for)
          ∙ ap (λ (k : Key). fits_beside (wants_at (requests_in s) k) w w.pool) parts.1
      go None e =
          let range_of : is_right_pool w.pool ≡ true = grind (arith, range) in
          none e ∙ sym (alone w w.pool range_of)
          ∙ ap (λ l. fits_beside l w w.pool) (sym (unwanted_at s locks w.key table (found.none e)))

  -- and so of the k-th want of a call
  pub fits_at : (wants : List Want) (seen : List Found) (k : ℕ) (w : Want) (b : Bool) → AreFound 0 locks wants seen → AdmitsFrom 0 locks wants
      → list_all is_in_range wants ≡ true → k < length wants → w ≡ get_or wants k unused_want
      → IfSome (get_or seen k no_found).number (λ n. b ≡ fits_last (lock_at locks n).queue w) → ((get_or seen k no_found).number ≡ None → b ≡ true)
      → b ≡ fits (requests_in s) w
  fits_at wants seen k w b found admits range within read some none =
      fits_known w (get_or seen k no_found) b
      (subst (λ (v : Want). IsFound locks v.key (get_or seen k no_found)) (sym read) (found k (omega arith) within))
      (subst (Admits locks) (sym read) (admits k (omega arith) within))
      (ap is_in_range read ∙ all_at is_in_range wants k unused_want range within) some none
