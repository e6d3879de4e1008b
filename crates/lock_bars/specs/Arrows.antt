-- The waits that a picture shows, each with its lock (this project's profile).
use Rattle.std.specs.Prelude.{◌≡◌, ℕ, false, List, [], ◌∷◌, take, Option, Some, None}
use Rattle.std.specs.List.{flat_map}
use Rattle.lock_queue.specs.Queue.{some_behind}
use Rattle.lock_queue.specs.Waits.{jobs, waits_hard_for}
use Rattle.lock_queue.specs.declared.key.Key.{Key}
use Rattle.lock_queue.specs.declared.request.Request.{Request}
use Rattle.lock_queue.specs.declared.want.Want.{Want}
use Rattle.wait_graph.specs.Graphs.{wait_in}
use Rattle.wait_graph.specs.LockWaits.{is_kept_from, want_at, want_kept}
use Rattle.wait_graph.specs.declared.graph.Graph.{Graph}
use Rattle.wait_graph.specs.declared.graph.Wait.{Wait}
use Rattle.lock_bars.specs.declared.arrows.Arrow.{Arrow}

abbrev pub wait_of : Arrow → Wait
wait_of arrow = arrow.wait

-- a wait, if there is one
abbrev pub listed : Option Wait → List Wait
listed (Some wait) = wait ∷ []
listed None = []

-- the waits of a job, and those of all jobs, by rising numbers
abbrev pub waits_of : Graph → ℕ → List Wait
waits_of graph job = flat_map (λ other. listed (wait_in graph job other)) jobs

abbrev pub waits_in : Graph → List Wait
waits_in graph = flat_map (waits_of graph) jobs

-- a lock from which one job keeps another: the first one of the first request by which it keeps it waiting
pub record IsLockBetween (requests : List Request) (job other : ℕ) (key : Option Key) : Type 0 where
  pub position : ℕ
  pub want : Want
  pub lock : want_at (want_kept (waits_hard_for requests job other) job other) requests position ≡ Some want
  pub first : some_behind (is_kept_from (waits_hard_for requests job other) job other) [] (take position requests) ≡ false
  pub named : key ≡ Some want.key

-- an arrow has the lock from which the other job keeps the one that waits
abbrev pub HasLock : List Request → Arrow → Type 0
HasLock requests arrow = IsLockBetween requests arrow.wait.job arrow.wait.other arrow.lock
