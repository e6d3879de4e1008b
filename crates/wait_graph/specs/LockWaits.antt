-- Which jobs keep a job waiting, and from which lock: owners of what it wants or, where nobody owns it, those that
-- asked before it (this project's profile).
use Rattle.std.specs.Prelude.{◌&&◌, ℕ, Bool, List, [], ◌∷◌, Option, Some, None, if◌then◌else◌, slice_get, take}
use Rattle.std.specs.List.{find, flat_map, list_any}
use Rattle.lock_queue.specs.declared.request.Request.{Request}
use Rattle.lock_queue.specs.declared.want.Want.{Want}
use Rattle.lock_queue.specs.Jobs.{is_blocked, is_kept_by, waits_for}
use Rattle.lock_queue.specs.Waits.{is_withheld_by, jobs, waits_hard_for}

-- whether a job waits for another: hard, for one that owns what it wants, or for any
abbrev pub waits_by : Bool → List Request → ℕ → ℕ → Bool
waits_by is_held requests job other = if is_held then waits_hard_for requests job other else waits_for requests job other

-- whether another job keeps a want of a request behind these ones from fitting, in the same two ways
abbrev pub keeps : Bool → List Request → Want → ℕ → Bool
keeps is_held earlier w other = if is_held then is_withheld_by other earlier w else is_kept_by other earlier w

-- whether a job waits for any owner
abbrev pub waits_for_owner : List Request → ℕ → Bool
waits_for_owner requests job = list_any (waits_hard_for requests job) jobs

-- a job, where it is waited for, and keeps this want from fitting
abbrev pub keeper : Bool → List Request → ℕ → List Request → Want → ℕ → List ℕ
keeper is_held requests job earlier w other =
    if waits_by is_held requests job other && keeps is_held earlier w other then other ∷ [] else []

-- all of these, by rising number
abbrev pub keepers : Bool → List Request → ℕ → List Request → Want → List ℕ
keepers is_held requests job earlier w = flat_map (keeper is_held requests job earlier w) jobs

-- whether one of the jobs for which a job waits keeps a want from fitting
abbrev pub has_keeper : Bool → List Request → ℕ → List Request → Want → Bool
has_keeper is_held requests job earlier w =
    list_any (λ other. waits_by is_held requests job other && keeps is_held earlier w other) jobs

-- whether a job waits by a request behind these ones, and such a job keeps one of its wants from fitting
abbrev pub is_kept_waiting : Bool → List Request → ℕ → List Request → Request → Bool
is_kept_waiting is_held requests job earlier r =
    is_blocked job earlier r && list_any (has_keeper is_held requests job earlier) r.wants.items

-- the same of one other job
abbrev pub is_kept_from : Bool → ℕ → ℕ → List Request → Request → Bool
is_kept_from is_held job other earlier r =
    is_blocked job earlier r && list_any (λ w. keeps is_held earlier w other) r.wants.items

-- the first want of a request from which one of the jobs for which its job waits keeps it, where it waits by the request
abbrev pub want_waited_for : Bool → List Request → ℕ → List Request → Request → Option Want
want_waited_for is_held requests job earlier r =
    if is_blocked job earlier r then find (has_keeper is_held requests job earlier) r.wants.items else None

-- the same of one other job
abbrev pub want_kept : Bool → ℕ → ℕ → List Request → Request → Option Want
want_kept is_held job other earlier r =
    if is_blocked job earlier r then find (λ w. keeps is_held earlier w other) r.wants.items else None

-- such a want of the request at a position, if there is one
abbrev pub want_in : (List Request → Request → Option Want) → List Request → Option Request → Option Want
want_in wanted earlier None = None
want_in wanted earlier (Some r) = wanted earlier r

abbrev pub want_at : (List Request → Request → Option Want) → List Request → ℕ → Option Want
want_at wanted requests position = want_in wanted (take position requests) (slice_get requests position)
