-- What WAITS writes: who waits for whom, and the jobs in circles (this project's profile).
use Rattle.std.specs.Prelude.{ℕ, Bool, List, [], ◌∷◌, ◌++◌, if◌then◌else◌, codes, decimal}
use Rattle.std.specs.List.{flat_map}
use Rattle.lock_queue.specs.Jobs.{waits_for}
use Rattle.lock_queue.specs.Waits.{jobs, is_in_circle}
use Rattle.lock_queue.specs.declared.request.Request.{Request}

-- `j FOR k`, where the job j waits for the job k
abbrev pub pair_line : (ℕ → ℕ → Bool) → ℕ → ℕ → List ℕ
pair_line waits j k = if waits j k then decimal j ++ codes " FOR " ++ decimal k ++ codes "\n" else []

-- the lines of all pairs, rising
abbrev pub pairs_text : (ℕ → ℕ → Bool) → List ℕ
pairs_text waits = flat_map (λ j. flat_map (pair_line waits j) jobs) jobs

-- a job in a circle, behind a space
abbrev pub circle_job : (ℕ → ℕ → Bool) → ℕ → List ℕ
circle_job waits j = if is_in_circle waits j then codes " " ++ decimal j else []

-- the jobs from which a walk leads back, each behind a space
abbrev pub circle_jobs : (ℕ → ℕ → Bool) → List ℕ
circle_jobs waits = flat_map (circle_job waits) jobs

abbrev pub or_none : List ℕ → List ℕ
or_none [] = codes " NONE"
or_none (c ∷ more) = c ∷ more

-- the pairs, and then the jobs from which a walk leads back
abbrev pub waits_text : List Request → List ℕ
waits_text requests =
    pairs_text (waits_for requests) ++ codes "CIRCLE" ++ or_none (circle_jobs (waits_for requests)) ++ codes "\n"
