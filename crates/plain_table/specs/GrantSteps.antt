-- How private functions find the grants that a call makes: by marks that are set before it and looked at after it.
use Rattle.std.specs.Prelude.{ℕ, Bool, not, ◌&&◌, if◌then◌else◌, List, [], ◌∷◌, ◌++◌, Option, Some, None}
use Rattle.lock_queue.specs.declared.grant.Grant.{Grant}
use Rattle.lock_queue.specs.declared.request.Request.{Request}
use Rattle.lock_queue.specs.Grants.{is_notified_of, grant_of}
use Rattle.lock_queue.specs.Jobs.{is_not_blocked_where}
use Rattle.lock_queue.specs.Queue.{granted_behind}

-- a request that is not granted, and whose job is to be notified of its grant
abbrev pub awaits_grant : List Request → Request → Bool
awaits_grant earlier r = is_notified_of r.kind && not (granted_behind earlier r)

-- the marks with that of a request in front, where it stays
abbrev pub marked : Option Request → Bool → List Bool → List Bool
marked None mark rest = rest
marked (Some r) mark rest = mark ∷ rest

-- for each request that stays, whether its job awaits its grant
abbrev pub marks_behind : (Request → Option Request) → List Request → List Request → List Bool
marks_behind left earlier [] = []
marks_behind left earlier (r ∷ later) = marked (left r) (awaits_grant earlier r) (marks_behind left (earlier ++ r ∷ []) later)

-- the same where the requests by which some jobs wait leave
abbrev pub marks_without : (ℕ → Bool) → List Request → List Request → List Bool
marks_without waiters earlier [] = []
marks_without waiters earlier (r ∷ later) =
    if is_not_blocked_where waiters earlier r
    then awaits_grant earlier r ∷ marks_without waiters (earlier ++ r ∷ []) later
    else marks_without waiters (earlier ++ r ∷ []) later

-- the grants of those requests that are marked and granted
abbrev pub raised_behind : List Request → List Bool → List Request → List Grant
raised_behind earlier [] later = []
raised_behind earlier (mark ∷ marks) [] = []
raised_behind earlier (mark ∷ marks) (r ∷ later) =
    if mark && granted_behind earlier r
    then grant_of r ∷ raised_behind (earlier ++ r ∷ []) marks later
    else raised_behind (earlier ++ r ∷ []) marks later
