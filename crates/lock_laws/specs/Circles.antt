-- Jobs that wait for one another (this project's profile).
use Rattle.std.specs.Prelude.{◌≡◌, ◌≢◌, ◌↔◌, ℕ, ◌<◌, Bool, true, false, not}
use Rattle.std.specs.Prelude.{◌==◌, ◌&&◌, IsTrue, List, length, Some, slice_get}
use Rattle.std.specs.List.{list_all}
use Rattle.lock_queue.specs.declared.request.Request.{Request}
use Rattle.lock_queue.specs.Jobs.{is_blocking, waits_for}
use Rattle.lock_queue.specs.Queue.{granted, requests_of}
use Rattle.lock_queue.specs.Waits.{is_circle, is_in_circle, LeadsBack}
use Rattle.lock_queue.specs.WellFormed.{are_well_formed}
use Rattle.lock_laws.specs.Safe.{Safe}

-- a job waits by its latest request alone: where a blocking request is not granted, no later request is of its job
abbrev pub WaitsByLatest : List Request → Type 0
WaitsByLatest requests =
    (i j : ℕ) (r s : Request) → i < j → slice_get requests i ≡ Some r → slice_get requests j ≡ Some s
    → is_blocking r.kind ≡ true → granted requests i ≡ false → s.job ≢ r.job

-- a plain job asks for one lock at a time, by rising levels: each of its present requests has one want, without bypass
abbrev pub has_one_plain_want : Request → Bool
has_one_plain_want r = length r.wants.items == 1 && list_all (λ w. not w.bypass) r.wants.items

abbrev pub is_plain : List Request → ℕ → Bool
is_plain requests job = list_all has_one_plain_want (requests_of requests job)

-- no circle of waits consists of plain jobs
abbrev pub NoPlainCircle : List Request → Type 0
NoPlainCircle requests =
    (circle : List ℕ) → list_all (is_plain requests) circle ≡ true → is_circle (waits_for requests) circle ≡ false

-- where all present requests are those of plain jobs, no job is in a circle: WAITS reports none
abbrev pub PlainJobsAreInNoCircle : Type 0
PlainJobsAreInNoCircle =
    (size : ℕ) (requests : List Request) → Safe size requests → WaitsByLatest requests
    → list_all has_one_plain_want requests ≡ true
    → (job : ℕ) → is_in_circle (waits_for requests) job ≡ false

-- a job is reported in a circle exactly where a walk of waits, of whatever length, leads from it back to it
abbrev pub CirclesAreTold : Type 0
CirclesAreTold =
    (requests : List Request) (job : ℕ) → IsTrue (are_well_formed requests)
    → (LeadsBack (waits_for requests) job ↔ IsTrue (is_in_circle (waits_for requests) job))
