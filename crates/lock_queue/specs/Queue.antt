-- Which wants fit and which requests are granted, worked out from the one list of requests in order of arrival
-- (ENQ/DEQ of the TOPS-10 Monitor Calls Manual, in this project's profile).
use Rattle.std.specs.Prelude.{ℕ, ◌+◌, Bool, false, not, ◌==◌, ◌&&◌, ◌||◌}
use Rattle.std.specs.Prelude.{if◌then◌else◌, List, [], ◌∷◌, ◌++◌, Option}
use Rattle.std.specs.Prelude.{Some, None, is_some, take, filter, sum_by, slice_get, nat_le}
use Rattle.std.specs.List.{list_all, list_any, flat_map}
use Rattle.lock_queue.specs.declared.key.Key.{Key}
use Rattle.lock_queue.specs.declared.request.Request.{Request}
use Rattle.lock_queue.specs.declared.want.Want.{Want}
use Rattle.lock_queue.specs.Keys.{same_key}
use Rattle.lock_queue.specs.Pools.{PoolShare}

-- the wants of some requests, in order
abbrev pub all_wants : List Request → List Want
all_wants requests = flat_map (λ r. r.wants.items) requests

-- those of a key
abbrev pub wants_at : List Request → Key → List Want
wants_at requests key = filter (λ w. same_key w.key key) (all_wants requests)

-- a job's requests, and their wants
abbrev pub requests_of : List Request → ℕ → List Request
requests_of requests job = filter (λ r. r.job == job) requests

abbrev pub wants_of : List Request → ℕ → List Want
wants_of requests job = all_wants (requests_of requests job)

-- whether one of the wants is of the key
abbrev pub names : List Want → Key → Bool
names wants key = list_any (λ w. same_key w.key key) wants

-- two wants of one key agree where both are shared and of one group
abbrev pub agree : Want → Want → Bool
agree v w = (v.shared && w.shared) && v.group == w.group

abbrev pub is_pooled : Want → Bool
is_pooled w = is_some w.pool

-- what a want takes of its pool
abbrev pub amount_in : Option PoolShare → ℕ
amount_in (Some share) = share.amount
amount_in None = 0

abbrev pub amount_of : Want → ℕ
amount_of w = amount_in w.pool

-- beside the earlier wants of its key, a want without a pool fits where each of them agrees with it, and one with a
-- pool where their amounts and its own add up to at most the pool's size
abbrev pub fits_beside : List Want → Want → Option PoolShare → Bool
fits_beside earlier w None = list_all (λ v. agree v w) earlier
fits_beside earlier w (Some share) = nat_le (sum_by amount_of earlier + share.amount) share.size

-- whether a want fits behind the earlier requests, whether these are granted or not
abbrev pub fits : List Request → Want → Bool
fits earlier w = fits_beside (wants_at earlier w.key) w w.pool

-- a request is granted where all of its wants fit behind the requests before it
abbrev pub granted_behind : List Request → Request → Bool
granted_behind earlier r = list_all (fits earlier) r.wants.items

abbrev pub is_granted : List Request → Option Request → Bool
is_granted earlier (Some r) = granted_behind earlier r
is_granted earlier None = false

-- whether the request at the position i of the list is granted
abbrev pub granted : List Request → ℕ → Bool
granted requests i = is_granted (take i requests) (slice_get requests i)

-- the requests for which a test of the requests before them and of themselves holds, in order of arrival
abbrev pub chosen_behind : (List Request → Request → Bool) → List Request → List Request → List Request
chosen_behind test earlier [] = []
chosen_behind test earlier (r ∷ later) =
    if test earlier r
    then r ∷ chosen_behind test (earlier ++ r ∷ []) later
    else chosen_behind test (earlier ++ r ∷ []) later

abbrev pub chosen : (List Request → Request → Bool) → List Request → List Request
chosen test requests = chosen_behind test [] requests

-- whether there is such a request
abbrev pub some_behind : (List Request → Request → Bool) → List Request → List Request → Bool
some_behind test earlier [] = false
some_behind test earlier (r ∷ later) = test earlier r || some_behind test (earlier ++ r ∷ []) later

-- the owners of a key are the granted requests with a want of it, and its waiters the others with one
abbrev pub is_owner : Key → List Request → Request → Bool
is_owner key earlier r = names r.wants.items key && granted_behind earlier r

abbrev pub is_waiter : Key → List Request → Request → Bool
is_waiter key earlier r = names r.wants.items key && not (granted_behind earlier r)

abbrev pub owners : List Request → Key → List Request
owners requests key = chosen (is_owner key) requests

abbrev pub waiters : List Request → Key → List Request
waiters requests key = chosen (is_waiter key) requests
