-- How the number of a key's lock is found (this project's profile).
use Rattle.std.specs.Prelude.{◌≡◌, ◌≤◌, ◌<◌, ◌*◌, ◌^◌, ◌⊎◌, ◌==◌, ℕ, true}
use Rattle.std.specs.Prelude.{false, List, [], ◌∷◌, ◌++◌, length, if◌then◌else◌}
use Rattle.std.specs.Prelude.{None, IfSome, slice_index_or}
use Rattle.std.specs.List.{All, position_or_len, remove}
use Rattle.word36.specs.declared.sizes.TheConstants.{LOCKS_A_CALL, MOST_REQUESTS}
use Rattle.lock_queue.specs.declared.key.Key.{Key}
use Rattle.lock_queue.specs.declared.want.Want.{Want}
use Rattle.key_queues.specs.declared.found.Found.{Found}
use Rattle.key_queues.specs.declared.lock.Lock.{Lock}
use Rattle.key_queues.specs.Kept.{appended}
use Rattle.key_queues.specs.Locks.{lock_at, with_queue}
use Rattle.key_queues.specs.States.{in_use}
use Rattle.key_queues.specs.Tables.{is_there}
use Rattle.key_queues.specs.declared.hash.TheConstants.{HASHES}
use Rattle.key_queues.specs.Hashes.{hash_of}
use Rattle.key_queues.specs.declared.buckets.Bucket.{Bucket}
use Rattle.key_queues.specs.declared.buckets.TheConstants.{ROOM}
use Rattle.key_queues.specs.LockUse.{fresh_lock, is_free, in_use_for}

abbrev pub no_bucket : Bucket
no_bucket = record { numbers = record { items = [] }; crowded = false }

abbrev pub bucket_at : List Bucket → ℕ → Bucket
bucket_at buckets h = slice_index_or buckets h no_bucket

-- a bucket with one more number, or crowded
abbrev pub numbered : Bucket → ℕ → Bucket
numbered b n =
    if length b.numbers.items == ROOM
    then record b { crowded = true }
    else record b { numbers = record { items = b.numbers.items ++ n ∷ [] } }

-- a bucket without a number
abbrev pub without_number : Bucket → ℕ → Bucket
without_number b n =
    record b { numbers = record { items = remove b.numbers.items (position_or_len (λ m. m == n) b.numbers.items) } }

-- a bucket that is not crowded has this number
abbrev pub Holds : Bucket → ℕ → Type 0
Holds b n = b.crowded ≡ false → is_there n b.numbers.items ≡ true

-- each lock has the hash of its key, and the bucket of that hash holds the number of a lock in use
pub record IsIndex (buckets : List Bucket) (locks : List Lock) : Type 0 where
  pub long : length buckets ≡ HASHES
  pub few : length locks ≤ 2 ^ 16
  pub within : (h : ℕ) → All (λ n. n < length locks) (bucket_at buckets h).numbers.items
  pub hashes : (n : ℕ) → (lock_at locks n).hash ≡ hash_of (lock_at locks n).key
  pub holds : (n : ℕ) → in_use (lock_at locks n).queue ≡ true → Holds (bucket_at buckets (lock_at locks n).hash) n

-- the locks of a table of so many requests, with memory for so many, each one in use in the index
pub record IsKeyed (size : ℕ) (locks : List Lock) (most : ℕ) (buckets : List Bucket) : Type 0 where
  pub small : size ≤ MOST_REQUESTS
  pub reserved : LOCKS_A_CALL * size ≤ most
  pub index : IsIndex buckets locks

-- the hash of a key, and the number of its lock in use, if there is one
pub record IsFound (locks : List Lock) (key : Key) (seen : Found) : Type 0 where
  pub hash : seen.hash ≡ hash_of key
  pub found : IfSome seen.number (λ n. in_use_for key (lock_at locks n) ≡ true)
  pub none : seen.number ≡ None → (n : ℕ) → in_use_for key (lock_at locks n) ≡ false

-- a free lock, among the locks and perhaps some new free ones
pub record IsSpare (locks more : List Lock) (n : ℕ) : Type 0 where
  pub same : (m : ℕ) → lock_at more m ≡ lock_at locks m
  pub kept : length locks ≤ length more
  pub within : n < length more
  pub free : is_free (lock_at more n) ≡ true

-- the lock of the key is in use, and stays as it is
pub record WasInUse (locks more : List Lock) (w : Want) (n : ℕ) : Type 0 where
  pub same : lock_at more n ≡ lock_at locks n
  pub in_use_for : in_use_for w.key (lock_at locks n) ≡ true

-- no lock of the key is in use, and a free one is made that of the key
pub record IsBegun (locks more : List Lock) (w : Want) (n : ℕ) : Type 0 where
  pub fresh : lock_at more n ≡ fresh_lock w
  pub free : is_free (lock_at locks n) ≡ true
  pub none : (m : ℕ) → in_use_for w.key (lock_at locks m) ≡ false

-- the lock of a want's key is made ready for it
pub record Readies (locks more : List Lock) (w : Want) (n : ℕ) : Type 0 where
  pub within : n < length more
  pub kept : length locks ≤ length more
  pub others : (m : ℕ) → (m ≡ n → ⊥) → lock_at more m ≡ lock_at locks m
  pub mine : WasInUse locks more w n ⊎ IsBegun locks more w n

-- and the want of the request in a slot comes last in its queue
pub record IsEntered (locks more : List Lock) (p : ℕ) (w : Want) (n : ℕ) : Type 0 where
  pub middle : List Lock
  pub ready : Readies locks middle w n
  pub after : more ≡ with_queue middle n (appended (lock_at middle n).queue p w)
