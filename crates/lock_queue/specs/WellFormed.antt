-- What holds of every request and of every call (ENQ/DEQ of the TOPS-10 Monitor Calls Manual, in this project's profile).
use Rattle.std.specs.Prelude.{ℕ, ◌^◌, Bool, true, not, ◌==◌, ◌&&◌, ◌||◌, List, []}
use Rattle.std.specs.Prelude.{◌∷◌, length, Option, Some, None, nat_le, nat_lt}
use Rattle.std.specs.List.{list_all}
use Rattle.word36.specs.declared.sizes.TheConstants.{JOBS, LOCKS_A_CALL}
use Rattle.lock_queue.specs.declared.call.LockCall.{LockCall}
use Rattle.lock_queue.specs.declared.call.LockCall.TheVariants.{Enqueue, Modify, DequeueNamed, DequeueAll, DequeueId}
use Rattle.lock_queue.specs.declared.request.Request.{Request}
use Rattle.lock_queue.specs.declared.want.Want.{Want}
use Rattle.lock_queue.specs.Dequeues.{has_wants}
use Rattle.lock_queue.specs.Keys.{same_key}
use Rattle.lock_queue.specs.Pools.{PoolShare, is_right_share}
use Rattle.lock_queue.specs.Queue.{is_pooled}

-- jobs are numbered from 1
abbrev pub is_job : ℕ → Bool
is_job n = nat_le 1 n && nat_le n JOBS

abbrev pub is_right_pool : Option PoolShare → Bool
is_right_pool (Some share) = is_right_share share
is_right_pool None = true

-- a level has 9 bits, and a pool's amount is from 1 to its size, a number of 18 bits
abbrev pub is_in_range : Want → Bool
is_in_range w = nat_lt w.level (2 ^ 9) && is_right_pool w.pool

-- a pool is not shared, and a want that is not shared has group 0
abbrev pub shares_rightly : Want → Bool
shares_rightly w = not (w.shared && is_pooled w) && (w.shared || w.group == 0)

-- no key is named twice
abbrev pub are_apart : List Want → Bool
are_apart [] = true
are_apart (w ∷ later) = list_all (λ v. not (same_key w.key v.key)) later && are_apart later

-- the wants of a request, of whatever number
abbrev pub are_right_wants : List Want → Bool
are_right_wants wants = (list_all is_in_range wants && list_all shares_rightly wants) && are_apart wants

-- a request is a job's, and has 1 to 16 wants
abbrev pub is_well_formed : Request → Bool
is_well_formed r =
    (is_job r.job && (has_wants r && nat_le (length r.wants.items) LOCKS_A_CALL)) && are_right_wants r.wants.items

abbrev pub are_well_formed : List Request → Bool
are_well_formed requests = list_all is_well_formed requests

-- a call that names locks names at least one
abbrev pub names_locks : LockCall → Bool
names_locks (Enqueue asking wants) = nat_le 1 (length wants.items)
names_locks (Modify wants) = nat_le 1 (length wants.items)
names_locks (DequeueNamed wants) = nat_le 1 (length wants.items)
names_locks DequeueAll = true
names_locks (DequeueId id) = true

-- what a call asks for is shared rightly: no pool is, and what is not shared has group 0
abbrev pub all_share_rightly : LockCall → Bool
all_share_rightly (Enqueue asking wants) = list_all shares_rightly wants.items
all_share_rightly (Modify wants) = true
all_share_rightly (DequeueNamed wants) = true
all_share_rightly DequeueAll = true
all_share_rightly (DequeueId id) = true

-- a job's call that can be made
abbrev pub is_call : ℕ → LockCall → Bool
is_call job call = is_job job && (names_locks call && all_share_rightly call)
