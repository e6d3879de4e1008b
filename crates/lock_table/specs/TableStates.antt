-- A table's state, from its store and its locks (this project's profile).
use Rattle.std.specs.Prelude.{ℕ, List, slice_index, slice_index_or}
use Rattle.lock_queue.specs.declared.want.Want.{Want}
use Rattle.lock_queue.specs.Unused.{unused_want}
use Rattle.key_queues.specs.declared.lock.Lock.{Lock}
use Rattle.key_queues.specs.Locks.{lock_at, want_in}
use Rattle.key_queues.specs.States.{State}
use Rattle.key_queues.specs.Stores.{Stored, entry_at}

abbrev pub state_of : Stored → List Lock → State
state_of s locks = record {
  order = s.order;
  at = λ x. (entry_at s x).request;
  own = λ x. (entry_at s x).queues.items;
  flag = λ x. (entry_at s x).granted;
  key = λ n. (lock_at locks n).key;
  size = λ n. (lock_at locks n).size;
  queue = λ n. (lock_at locks n).queue;
}

-- the want of a slot in a queue
abbrev pub queued_want : Stored → ℕ → ℕ → Want
queued_want s p n = want_in (entry_at s p).queues.items (entry_at s p).request.wants.items n

-- the k-th of a request's queues, and of its wants
abbrev pub own_at : Stored → ℕ → ℕ → ℕ
own_at s p k = slice_index (entry_at s p).queues.items k

abbrev pub want_at : Stored → ℕ → ℕ → Want
want_at s p k = slice_index_or (entry_at s p).request.wants.items k unused_want
