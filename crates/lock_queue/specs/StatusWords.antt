-- The status of a key: ENQC. function 0 (this project's profile).
use Rattle.std.specs.Prelude.{ℕ, ◌+◌, ◌-◌, ◌^◌, Bool, not, ◌==◌, ◌&&◌, if◌then◌else◌}
use Rattle.std.specs.Prelude.{List, [], ◌∷◌, length, Option, Some, None, sum_by, unwrap_or}
use Rattle.std.specs.List.{list_any}
use Rattle.word36.specs.Words.{joined}
use Rattle.lock_queue.specs.declared.key.Key.{Key}
use Rattle.lock_queue.specs.declared.request.Request.{Request}
use Rattle.lock_queue.specs.declared.status.Status.{Status}
use Rattle.lock_queue.specs.declared.want.Want.{Want}
use Rattle.lock_queue.specs.Queue.{is_pooled, amount_of, wants_at, owners, waiters}

-- whether one of the requests is the job's
abbrev pub has_job : List Request → ℕ → Bool
has_job requests job = list_any (λ r. r.job == job) requests

abbrev pub is_exclusive : Want → Bool
is_exclusive w = not w.shared && not (is_pooled w)

-- the level of the first of some wants
abbrev pub first_level : List Want → Option ℕ
first_level [] = None
first_level (w ∷ later) = Some w.level

-- the job of the first of some requests
abbrev pub first_job : List Request → Option ℕ
first_job [] = None
first_job (r ∷ later) = Some r.job

-- the status of a key of this level that these requests own and these wait for: whether the asking job owns it and waits
-- for it; whether an owner has it exclusively, without a pool; the level; the first owner; how many requests own it and
-- wait for it; and how much of a pool its owners have
abbrev pub status_from : Key → ℕ → ℕ → List Request → List Request → Status
status_from key asker level owning waiting =
    record {
      owns = has_job owning asker;
      waits = has_job waiting asker;
      exclusive = list_any is_exclusive (wants_at owning key);
      level = level;
      first_owner = first_job owning;
      owner_count = length owning;
      waiter_count = length waiting;
      amount = sum_by amount_of (wants_at owning key);
    }

abbrev pub level_of : List Request → Key → ℕ
level_of requests key = unwrap_or (first_level (wants_at requests key)) 0

-- the status of a key for the job that asks. All present wants of a key have the level of the first; without any it is 0
abbrev pub status_of : List Request → Key → ℕ → Status
status_of requests key asker =
    status_from key asker (level_of requests key) (owners requests key) (waiters requests key)

-- a flag in bit b of a word's left half
abbrev pub left_bit : ℕ → Bool → ℕ
left_bit b flag = if flag then 2 ^ (17 - b) else 0

-- bit 1 the caller owns, bit 2 the caller waits, bit 3 owned exclusively without a pool, bits 9 to 17 the level; in the
-- right half the first owner's job, or 0
abbrev pub owner_word : Status → ℕ
owner_word s =
    joined (left_bit 1 s.owns + left_bit 2 s.waits + left_bit 3 s.exclusive + s.level) (unwrap_or s.first_owner 0)

-- owners,,waiters
abbrev pub count_word : Status → ℕ
count_word s = joined s.owner_count s.waiter_count

-- the three words of a status
abbrev pub words_of : Status → List ℕ
words_of s = owner_word s ∷ count_word s ∷ s.amount ∷ []
