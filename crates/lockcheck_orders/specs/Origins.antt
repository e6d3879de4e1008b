-- What holds of every state that is kept.
use Rattle.std.specs.Prelude.{◌≡◌, ◌≤◌, List, length, true}
use Rattle.std.specs.List.{list_all}
use Rattle.word36.specs.declared.sizes.TheConstants.{MOST_REQUESTS}
use Rattle.lock_queue.specs.WellFormed.{are_well_formed}
use Rattle.lockcheck_orders.specs.declared.lines.Line.{Line}
use Rattle.lockcheck_orders.specs.Orders.{State}
use Rattle.lockcheck_orders.specs.Packing.{StateForm, came_from_some, packed, unpacked}
use Rattle.lockcheck_orders.specs.Programs.{jobs_of}

-- the requests of a state can be in a table, each came from a line, and there is a count of calls for each job
pub record IsMet (lines : List Line) (s : State) : Type 0 where
  pub well : are_well_formed s.requests ≡ true
  pub few : length s.requests ≤ MOST_REQUESTS
  pub come : list_all (came_from_some lines) s.requests ≡ true
  pub counted : length s.made ≡ length (jobs_of lines)

-- what is kept is the packed form of such a state
pub record IsKept (lines : List Line) (x : StateForm) : Type 0 where
  pub met : IsMet lines (unpacked lines x)
  pub same : packed lines (unpacked lines x) ≡ x
