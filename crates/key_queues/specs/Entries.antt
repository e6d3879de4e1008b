-- Entries: requests as a table keeps them (this project's profile).
use Rattle.std.specs.Prelude.{ℕ, Bool, true, false, List, [], ◌∷◌, ◌++◌, slice_set}
use Rattle.std.specs.List.{remove}
use Rattle.lock_queue.specs.declared.call.Asking.{Asking}
use Rattle.lock_queue.specs.declared.want.Want.{Want}
use Rattle.lock_queue.specs.Enqueues.{request_of}
use Rattle.lock_queue.specs.Unused.{unused_request}
use Rattle.key_queues.specs.declared.entry.Entry.{Entry}

-- what unused slots hold
abbrev pub unused_entry : Entry
unused_entry = record { request = unused_request; queues = record { items = [] }; granted = false }

-- a request that arrives, of which no want is entered yet
abbrev pub arrived : ℕ → Asking → Bool → Entry
arrived job asking notified = record {
  request = request_of job asking notified (record { items = [] });
  queues = record { items = [] };
  granted = false;
}

abbrev pub with_granted : Entry → Bool → Entry
with_granted f granted = record f { granted = granted }

-- with the grant marked as notified
abbrev pub with_notified : Entry → Entry
with_notified f = record f { request = record (f.request) { notified = true } }

-- with other wants and queues
abbrev pub with_wants : Entry → List Want → List ℕ → Entry
with_wants f wants queues = record f {
  request = record (f.request) { wants = record { items = wants } };
  queues = record { items = queues };
}

-- with one more want, in a queue
abbrev pub with_more : Entry → Want → ℕ → Entry
with_more f w n = with_wants f (f.request.wants.items ++ w ∷ []) (f.queues.items ++ n ∷ [])

-- without its k-th want, and the queue of that
abbrev pub without_want : Entry → ℕ → Entry
without_want f k = with_wants f (remove f.request.wants.items k) (remove f.queues.items k)

-- with another k-th want, in the same queue
abbrev pub with_want : Entry → ℕ → Want → Entry
with_want f k w = with_wants f (slice_set f.request.wants.items k w) f.queues.items
