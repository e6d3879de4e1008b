-- Who waits for whom: walks and circles of waits (this project's profile).
use Rattle.std.specs.Prelude.{◌≡◌, ℕ, zero, suc, ◌+◌, Bool, true, false, not, ◌&&◌, ◌||◌, List, [], ◌∷◌}
use Rattle.std.specs.List.{list_any}
use Rattle.word36.specs.declared.sizes.TheConstants.{JOBS}
use Rattle.lock_queue.specs.declared.request.Request.{Request}
use Rattle.lock_queue.specs.declared.want.Want.{Want}
use Rattle.lock_queue.specs.Jobs.{is_blocked, is_in_the_way, waits_for}
use Rattle.lock_queue.specs.Queue.{chosen, fits, granted_behind, requests_of, some_behind, wants_at}

-- so many numbers, from the first on
unfoldable pub numbers_from : ℕ → ℕ → List ℕ
numbers_from first zero = []
numbers_from first (suc count) = first ∷ numbers_from (first + 1) count

-- the jobs' numbers, rising
unfoldable pub jobs : List ℕ
jobs = numbers_from 1 JOBS

-- whether a walk leads from one job over others to a last one: each waits for the next
abbrev pub is_walk : (ℕ → ℕ → Bool) → ℕ → List ℕ → ℕ → Bool
is_walk waits j [] k = waits j k
is_walk waits j (m ∷ between) k = waits j m && is_walk waits m between k

-- whether some jobs wait in a circle: each for the next, and the last for the first
abbrev pub is_circle : (ℕ → ℕ → Bool) → List ℕ → Bool
is_circle waits [] = false
is_circle waits (j ∷ later) = is_walk waits j later j

-- a walk, of whatever length, leads from the job back to it
abbrev pub LeadsBack : (ℕ → ℕ → Bool) → ℕ → Type 0
LeadsBack waits j = (between : List ℕ) × (is_walk waits j between j ≡ true)

-- whether a walk of at most so many steps leads from one job to another
unfoldable pub leads_to : (ℕ → ℕ → Bool) → ℕ → ℕ → ℕ → Bool
leads_to waits zero j k = false
leads_to waits (suc steps) j k = waits j k || list_any (λ m. waits j m && leads_to waits steps m k) jobs

-- whether a job is in a circle: a walk leads back to it, and none needs more steps than there are jobs
abbrev pub is_in_circle : (ℕ → ℕ → Bool) → ℕ → Bool
is_in_circle waits j = leads_to waits JOBS j j

-- whether a want does not fit, and an earlier want of its key that stands in its way is one that the job owns
abbrev pub is_withheld_by : ℕ → List Request → Want → Bool
is_withheld_by job earlier w =
    not (fits earlier w)
    && list_any (λ v. is_in_the_way v w) (wants_at (requests_of (chosen granted_behind earlier) job) w.key)

abbrev pub is_withheld_from : ℕ → ℕ → List Request → Request → Bool
is_withheld_from job owner earlier r = is_blocked job earlier r && list_any (is_withheld_by owner earlier) r.wants.items

-- a job waits hard for an owner of what it wants, and softly for a job that only stands in front of it
abbrev pub waits_hard_for : List Request → ℕ → ℕ → Bool
waits_hard_for requests job owner = some_behind (is_withheld_from job owner) [] requests

abbrev pub waits_softly_for : List Request → ℕ → ℕ → Bool
waits_softly_for requests job other = waits_for requests job other && not (waits_hard_for requests job other)
