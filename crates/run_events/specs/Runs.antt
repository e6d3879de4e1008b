-- Rounds up to the first that has a fact.
use Rattle.std.specs.Prelude.{ℕ, ◌≡◌, ◌+◌, ◌-◌, ◌<◌, ◌≤◌, Bool, true, false, is_some, List, [], ◌++◌, Option, Some, None}
use Rattle.machine.specs.Machine.{S, after, happens}
use Rattle.machine.specs.Rounds.{rounds}
use Rattle.machine.specs.Told.{told_in}
use Rattle.machine.specs.declared.told.Told.{Told}
use Rattle.machine.specs.declared.event.Event.TheVariants.{Step}
use Rattle.run_events.specs.Facts.{facts_of_step, facts_of_tick}
use Rattle.run_events.specs.declared.facts.Fact.{Fact}
use Rattle.run_events.specs.declared.runs.RoundsMade.{RoundsMade}

-- the facts of a round: of a step, and of the tick behind it
abbrev pub facts_of_round : S → List Fact
facts_of_round s = facts_of_step s ++ facts_of_tick (happens s Step).state

-- n rounds lead from s to t, the last of them has these facts, and the others have none
pub record RunsTo (s t : S) (n : ℕ) (facts : List Fact) : Type 0 where
  pub least : 1 ≤ n
  pub state : t ≡ after (rounds n true) s
  pub quiet : (k : ℕ) → k + 1 < n → facts_of_round (after (rounds k true) s) ≡ []
  pub last : facts ≡ facts_of_round (after (rounds (n - 1) true) s)

-- the job that a step tells of, and whether it made a call
abbrev pub job_told : Option Told → Option ℕ
job_told (Some t) = Some t.job
job_told None = None

abbrev pub has_called : Option Told → Bool
has_called (Some t) = is_some t.call
has_called None = false

-- these rounds but for the last tick lead from s to t, the last step has these facts, and the rounds before it have none
pub record LeadsTo (s t : S) (r : RoundsMade) : Type 0 where
  pub least : 1 ≤ r.made
  pub state : t ≡ (happens (after (rounds (r.made - 1) true) s) Step).state
  pub quiet : (k : ℕ) → k + 1 < r.made → facts_of_round (after (rounds k true) s) ≡ []
  pub job : r.job ≡ job_told (told_in (after (rounds (r.made - 1) true) s))
  pub called : r.has_called ≡ has_called (told_in (after (rounds (r.made - 1) true) s))
  pub facts : r.facts.items ≡ facts_of_step (after (rounds (r.made - 1) true) s)
