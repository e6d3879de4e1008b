-- The graph of waits, as tables with an entry for each two jobs (this project's profile).
use Rattle.std.specs.Prelude.{ℕ, Bool, ◌&&◌, ◌||◌, List, Option, Some, None, if◌then◌else◌}
use Rattle.std.specs.List.{list_any}
use Rattle.word36.specs.declared.sizes.TheConstants.{JOBS}
use Rattle.lock_queue.specs.Jobs.{waits_for}
use Rattle.lock_queue.specs.Waits.{jobs, leads_to, waits_hard_for}
use Rattle.lock_queue.specs.declared.request.Request.{Request}
use Rattle.wait_graph.specs.Pairs.{Tells, pair_in}
use Rattle.wait_graph.specs.declared.graph.Graph.{Graph}
use Rattle.wait_graph.specs.declared.graph.Wait.{Wait}

-- a wait is in a circle where a walk of waits leads back from the one that is waited for
abbrev pub closes_circle : (ℕ → ℕ → Bool) → ℕ → ℕ → Bool
closes_circle waits j k = waits j k && leads_to waits JOBS k j

-- the wait of one job for another in a graph, if there is one: it is hard, and in a circle, where the tables say so
abbrev pub wait_in : Graph → ℕ → ℕ → Option Wait
wait_in graph j k =
    if pair_in graph.waits j k
    then Some (record { job = j; other = k; is_hard = pair_in graph.hard j k; is_in_circle = pair_in graph.circles j k })
    else None

-- one of two jobs waits for the other
abbrev pub is_between : Graph → ℕ → ℕ → Bool
is_between graph j k = pair_in graph.waits j k || pair_in graph.waits k j

-- a job waits for one of the jobs, or one of them for it
abbrev pub has_wait : Graph → ℕ → Bool
has_wait graph j = list_any (is_between graph j) jobs

-- a job waits for one of the jobs, and this wait is in a circle
abbrev pub is_on_circle : Graph → ℕ → Bool
is_on_circle graph j = list_any (λ k. pair_in graph.waits j k && pair_in graph.circles j k) jobs

-- a graph tells who waits for whom behind these requests, who for an owner, and which waits are in a circle
abbrev pub Shows : List Request → Graph → Type 0
Shows requests graph =
    Tells graph.waits (waits_for requests)
    × Tells graph.hard (waits_hard_for requests)
    × Tells graph.circles (closes_circle (pair_in graph.waits))
