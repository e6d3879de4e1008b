-- A status with one more request, in front of the others: the steps of the private functions that work it out.
use Rattle.std.specs.Prelude.{ℕ, ◌+◌, ◌-◌, ◌*◌, ◌^◌, ◌==◌, ◌||◌, Some, filter, sum_by}
use Rattle.std.specs.List.{list_any}
use Rattle.word36.specs.declared.sizes.TheConstants.{LOCKS_A_CALL}
use Rattle.lock_queue.specs.declared.key.Key.{Key}
use Rattle.lock_queue.specs.declared.request.Request.{Request}
use Rattle.lock_queue.specs.declared.status.Status.{Status}
use Rattle.lock_queue.specs.Keys.{same_key}
use Rattle.lock_queue.specs.Queue.{amount_of}
use Rattle.lock_queue.specs.StatusWords.{is_exclusive}

-- the most that one request takes of a key's pool: its wants, each of an amount of 18 bits. In 32 bits there is room for
-- 1,024 such requests
abbrev pub most_taken : ℕ
most_taken = LOCKS_A_CALL * (2 ^ 18 - 1)

abbrev pub with_owner : Key → ℕ → Request → Status → Status
with_owner key asker r s =
    record s {
      owns = r.job == asker || s.owns;
      exclusive = list_any is_exclusive (filter (λ w. same_key w.key key) r.wants.items) || s.exclusive;
      first_owner = Some r.job;
      owner_count = s.owner_count + 1;
      amount = sum_by amount_of (filter (λ w. same_key w.key key) r.wants.items) + s.amount;
    }

abbrev pub with_waiter : ℕ → Request → Status → Status
with_waiter asker r s =
    record s {
      waits = r.job == asker || s.waits;
      waiter_count = s.waiter_count + 1;
    }
