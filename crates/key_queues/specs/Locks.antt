-- Locks by their numbers (this project's profile).
use Rattle.std.specs.Prelude.{◌-◌, ℕ, ◌==◌, List, length, None, slice_index_or, slice_set}
use Rattle.std.specs.List.{position_or_len}
use Rattle.lock_queue.specs.declared.want.Want.{Want}
use Rattle.lock_queue.specs.Unused.{unused_want}
use Rattle.key_queues.specs.declared.lock.Lock.{Lock}
use Rattle.key_queues.specs.Kept.{KeptQueue, no_queue, without}

abbrev pub unused_lock : Lock
unused_lock = record { key = unused_want.key; hash = 0; size = None; queue = no_queue }

abbrev pub lock_at : List Lock → ℕ → Lock
lock_at locks n = slice_index_or locks n unused_lock

-- that of a request's wants which is in a queue
abbrev pub want_in : List ℕ → List Want → ℕ → Want
want_in queues wants n = slice_index_or wants (position_or_len (λ m. m == n) queues) unused_want

-- a lock with its queue changed
abbrev pub with_queue : List Lock → ℕ → KeptQueue → List Lock
with_queue locks n q = slice_set locks n (record (lock_at locks n) { queue = q })

-- how many wants of a queue are not counted
abbrev pub uncounted : KeptQueue → ℕ
uncounted q = length q.slots - q.fitting

-- a queue without the want of a slot
abbrev pub without_slot : KeptQueue → ℕ → Want → KeptQueue
without_slot q p w = without q (position_or_len (λ m. m == p) q.slots) w
