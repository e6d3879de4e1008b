-- The marks of the flags that a call flips (this project's profile).
use Rattle.std.specs.Prelude.{◌≡◌, ◌&&◌, ℕ, Bool, true, false, not, if◌then◌else◌, List, slice_index_or}
use Rattle.std.specs.Bool.{beq}
use Rattle.lock_queue.specs.Dequeues.{has_wants}
use Rattle.key_queues.specs.Tables.{is_there}
use Rattle.key_queues.specs.Stores.{Stored, entry_at}

-- the mark of a slot
abbrev pub mark_at : List Bool → ℕ → Bool
mark_at marks x = slice_index_or marks x false

abbrev pub flipped_if : Bool → Bool → Bool
flipped_if flips mark = if flips then not mark else mark

-- a request is present and has wants; one without wants is about to be removed
abbrev pub is_wanting : Stored → ℕ → Bool
is_wanting s x = is_there x s.order && has_wants (entry_at s x).request

-- the mark of each request that is present and has wants flips where its flag does
abbrev pub Flipped : Stored → Stored → List Bool → List Bool → Type 0
Flipped s t before after =
    (x : ℕ) → is_wanting t x ≡ true
    → mark_at after x ≡ flipped_if (not (beq (entry_at s x).granted (entry_at t x).granted)) (mark_at before x)
