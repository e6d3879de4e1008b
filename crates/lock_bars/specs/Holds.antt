-- The holdings of a table: which job owns which lock, or waits for it (this project's profile).
use Rattle.std.specs.Prelude.{ℕ, ◌+◌, Bool, true, false, not, ◌==◌, ◌&&◌, List, [], ◌∷◌, ◌++◌, map}
use Rattle.lock_queue.specs.Keys.{same_key}
use Rattle.lock_queue.specs.Queue.{amount_of, granted}
use Rattle.lock_queue.specs.declared.request.Request.{Request}
use Rattle.lock_queue.specs.declared.want.Want.{Want}
use Rattle.lock_bars.specs.declared.holds.Hold.{Hold}

-- the holding of a job by one of its wants
abbrev pub hold_of : ℕ → Bool → Want → Hold
hold_of job owns w = record { job = job; key = w.key; shared = w.shared; group = w.group; amount = amount_of w; owns = owns }

-- those of the requests from position i on
abbrev pub holds_from : List Request → ℕ → List Request → List Hold
holds_from requests i [] = []
holds_from requests i (r ∷ later) = map (hold_of r.job (granted requests i)) r.wants.items ++ holds_from requests (i + 1) later

-- the holdings of a table with these requests: of each request, in order of arrival, one for each lock, which the job owns
-- where the request is granted
abbrev pub holds_of : List Request → List Hold
holds_of requests = holds_from requests 0 requests

abbrev pub same_truth : Bool → Bool → Bool
same_truth true b = b
same_truth false b = not b

-- two holdings are the same: the same job has the same part of the same lock in the same way
abbrev pub same_hold : Hold → Hold → Bool
same_hold a b =
    (a.job == b.job && same_key a.key b.key)
    && ((a.amount == b.amount && same_truth a.shared b.shared) && (a.group == b.group && same_truth a.owns b.owns))
