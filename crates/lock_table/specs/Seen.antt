-- What is seen of a table (this project's profile).
use Rattle.std.specs.Prelude.{◌≤◌, ℕ, List, IsTrue, length}
use Rattle.word36.specs.declared.sizes.TheConstants.{MOST_REQUESTS}
use Rattle.lock_queue.specs.declared.request.Request.{Request}
use Rattle.lock_queue.specs.WellFormed.{are_well_formed}

-- the requests, in order of arrival, and what a caller may rely on
pub record Seen (size : ℕ) : Type 0 where
  pub requests : List Request
  pub sized : (1 ≤ size) × (size ≤ MOST_REQUESTS)
  pub few : length requests ≤ size
  pub well : IsTrue (are_well_formed requests)
