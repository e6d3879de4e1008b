-- The grants that a call made, read off the marks (this project's profile).
use Rattle.std.specs.Prelude.{◌≡◌, ℕ, Bool, false, ◌&&◌, List, filter, map}
use Rattle.lock_queue.specs.declared.grant.Grant.{Grant}
use Rattle.lock_queue.specs.Grants.{grant_of, is_notified_of}
use Rattle.key_queues.specs.Stores.{Stored, entry_at}
use Rattle.lock_table.specs.Reads.{requests_at}
use Rattle.lock_table.specs.Flips.{mark_at}

-- how many flips there were, and the slot of the last: after none no mark is set, and after one no other than the last
pub record MarksAre (marks : List Bool) (flipped last : ℕ) : Type 0 where
  pub none : flipped ≡ 0 → (x : ℕ) → mark_at marks x ≡ false
  pub one : flipped ≡ 1 → (x : ℕ) → (x ≡ last → ⊥) → mark_at marks x ≡ false

-- whether the request in a slot became granted, and its job is notified of it
abbrev pub is_raised : Stored → List Bool → ℕ → Bool
is_raised s marks x = (mark_at marks x && (entry_at s x).granted) && is_notified_of (entry_at s x).request.kind

abbrev pub grants_marked : Stored → List Bool → List Grant
grants_marked s marks = map grant_of (requests_at s (filter (is_raised s marks) s.order))
