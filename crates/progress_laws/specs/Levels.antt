-- A job that waits for a lock gets it in time, where jobs ask for one lock at a time by rising levels, and an owner may wait for
-- locks of higher levels (this project's profile).
use Rattle.std.specs.Prelude.{ℕ, zero, suc, ◌≡◌, ◌⊎◌, ◌+◌, ◌-◌, ◌*◌, ◌<◌, ◌≤◌, Bool, true, List, length, Contains}
use Rattle.std.specs.List.{list_all}
use Rattle.lock_queue.specs.declared.key.Key.{Key}
use Rattle.lock_queue.specs.declared.request.Request.{Request}
use Rattle.lock_queue.specs.declared.want.Want.{Want}
use Rattle.lock_queue.specs.Jobs.{is_waiting_job}
use Rattle.lock_laws.specs.Circles.{has_one_plain_want}
use Rattle.lock_laws.specs.Owning.{owns}
use Rattle.machine.specs.declared.event.Event.{Event}
use Rattle.machine.specs.Along.{Always, Along}
use Rattle.machine.specs.Machine.{S}
use Rattle.progress_laws.specs.Rounds.{rounds_in, MayRun, HasJobs}
use Rattle.progress_laws.specs.Together.{ahead, IsWithout, GivenUpWithin}
use Rattle.progress_laws.specs.Turns.{how_many}

-- each present request has one want, which does not bypass the rule of rising levels
abbrev pub IsPlain : S → Type 0
IsPlain s = list_all has_one_plain_want s.world.requests ≡ true

-- the level of each want is one of these
abbrev pub HasLevels : List ℕ → S → Type 0
HasLevels levels s =
    (r : Request) (w : Want) → Contains s.world.requests r → Contains r.wants.items w → Contains levels w.level

-- at most so many requests are present
abbrev pub HasFew : ℕ → S → Type 0
HasFew few s = length s.world.requests ≤ few

-- each owner of a key waits for the grant of another key, or may run: it is not stopped, and waits for nothing else
abbrev pub OwnersGoOn : S → Event → Type 0
OwnersGoOn s e =
    (job : ℕ) (key : Key) → owns s.world.requests job key ≡ true → (is_waiting_job s.world.requests job ≡ true) ⊎ MayRun job s e

-- Within how many rounds an owner makes a step, where so many levels are above that of its key: within `once` rounds if it waits
-- for nothing; otherwise after at most `few` requests in front of its own for a key of a higher level, each of which is given up
-- within `most` steps of its owner.
abbrev pub turn_below : ℕ → ℕ → ℕ → ℕ → ℕ
turn_below once few most zero = once
turn_below once few most (suc levels) = once + few * (most * turn_below once few most levels)

-- A job waits all along a run for a key: it wants it and does not own it. In the run jobs ask for one lock at a time by rising
-- levels, each of which is in a list, owners go on, and each owner gives its key up by the last of `most` steps. Then the run has
-- fewer rounds than this bound: for each request for the key in front of the job's own, `most` steps of an owner, each within as
-- many rounds as the levels above need. A list that names each level once gives the best bound.
abbrev pub IsGrantedByLevels : S → List Event → Type 0
IsGrantedByLevels s es =
    (job : ℕ) (key : Key) (most few : ℕ) (levels : List ℕ) (test : ℕ → Bool)
    → 1 ≤ most → Always (IsWithout job key) s es → Always IsPlain s es
    → Always (HasLevels levels) s es → Always (HasFew few) s es → Along OwnersGoOn s es
    → ((k : Key) → GivenUpWithin most k s es) → Always (HasJobs test) s es
    → rounds_in es < ahead job key s * (most * turn_below ((how_many test - 1) * s.quantum + 1) few most (length levels - 1))
