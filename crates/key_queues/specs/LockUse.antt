-- Locks in use (this project's profile).
use Rattle.std.specs.Prelude.{ℕ, Bool, not, ◌&&◌, Option, Some, None}
use Rattle.lock_queue.specs.declared.key.Key.{Key}
use Rattle.lock_queue.specs.declared.want.Want.{Want}
use Rattle.lock_queue.specs.Keys.{same_key}
use Rattle.lock_queue.specs.Pools.{PoolShare}
use Rattle.key_queues.specs.declared.lock.Lock.{Lock}
use Rattle.key_queues.specs.Hashes.{hash_of}
use Rattle.key_queues.specs.Kept.{no_queue}
use Rattle.key_queues.specs.States.{in_use}

-- whether a lock is in use and of a key
abbrev pub in_use_for : Key → Lock → Bool
in_use_for key l = in_use l.queue && same_key l.key key

abbrev pub is_free : Lock → Bool
is_free l = not (in_use l.queue)

abbrev pub size_of : Option PoolShare → Option ℕ
size_of (Some share) = Some share.size
size_of None = None

-- the lock of a want's key, with an empty queue
abbrev pub fresh_lock : Want → Lock
fresh_lock w = record { key = w.key; hash = hash_of w.key; size = size_of w.pool; queue = no_queue }
