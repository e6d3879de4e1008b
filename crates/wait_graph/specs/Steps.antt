-- How many steps of waits lead to a job (this project's profile).
use Rattle.std.specs.Prelude.{◌≡◌, ◌<◌, ◌≤◌, ◌==◌, ◌-◌, ◌&&◌, ◌||◌, ℕ, Bool, List, if◌then◌else◌, nat_le, nat_lt, slice_index_or}
use Rattle.std.specs.List.{list_any}
use Rattle.lock_queue.specs.Waits.{jobs, leads_to}
use Rattle.wait_graph.specs.Pairs.{pair_in}
use Rattle.wait_graph.specs.declared.pairs.TheConstants.{NUMBERS}

-- so many steps lead to the target, of which there are at least one, and at most so many
abbrev pub is_within : ℕ → ℕ → Bool
is_within steps most = nat_lt 0 steps && nat_le steps most

-- a table has for each job the steps of a shortest walk of waits to the target, or 0 where none of at most so many leads there
abbrev pub CountsSteps : List Bool → ℕ → ℕ → List ℕ → Type 0
CountsSteps pairs target most steps =
    (j : ℕ) → j < NUMBERS
    → (slice_index_or steps j 0 ≤ most)
    × ((n : ℕ) → n ≤ most → leads_to (pair_in pairs) n j target ≡ is_within (slice_index_or steps j 0) n)

-- a job waits for the target, or for a job from which steps are counted
abbrev pub leads_on : List Bool → List ℕ → ℕ → ℕ → Bool
leads_on pairs steps j target =
    pair_in pairs j target || list_any (λ m. pair_in pairs j m && nat_lt 0 (slice_index_or steps m 0)) jobs

-- the steps of a job, where this round finds those that no round before has found
abbrev pub counted : List Bool → List ℕ → ℕ → ℕ → ℕ → ℕ
counted pairs steps round j target =
    if slice_index_or steps j 0 == 0 && leads_on pairs steps j target then round else slice_index_or steps j 0

-- one job waits for another, from which fewer steps are counted
abbrev pub is_nearer : List Bool → List ℕ → ℕ → ℕ → Bool
is_nearer pairs steps j m = pair_in pairs j m && is_within (slice_index_or steps m 0) (slice_index_or steps j 0 - 1)
