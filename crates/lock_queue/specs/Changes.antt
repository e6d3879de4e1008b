-- Wants that are made shared or exclusive: ENQ. function 3 (ENQ/DEQ of the TOPS-10 Monitor Calls Manual, in this
-- project's profile).
use Rattle.std.specs.Prelude.{ℕ, Bool, true, false, not, ◌==◌, ◌&&◌, ◌||◌}
use Rattle.std.specs.Prelude.{if◌then◌else◌, List, [], ◌∷◌, ◌++◌, map, Option}
use Rattle.std.specs.List.{list_any}
use Rattle.lock_queue.specs.declared.call.LockReply.TheVariants.{Done}
use Rattle.lock_queue.specs.declared.refusal.Refusal.{Refusal}
use Rattle.lock_queue.specs.declared.refusal.Refusal.TheVariants.{BadPool, NamedAlready, NotPresent, WouldLose}
use Rattle.lock_queue.specs.declared.request.Request.{Request}
use Rattle.lock_queue.specs.declared.want.Want.{Want}
use Rattle.lock_queue.specs.Dequeues.{with_wants}
use Rattle.lock_queue.specs.Keys.{same_key}
use Rattle.lock_queue.specs.Outcomes.{Outcome, outcome, unless_refused, refuse_if, or_else, first_refusal}
use Rattle.lock_queue.specs.Queue.{is_pooled, names, wants_at, wants_of, requests_of, granted_behind}

-- why a want is refused: the key is named by an earlier one of the call, the job has no want of it, or the job's want of
-- it is of a pool and would be shared
abbrev pub modify_fault : List Request → ℕ → List Want → Want → Option Refusal
modify_fault requests job earlier c =
    or_else (refuse_if (names earlier c.key) NamedAlready)
    (or_else (refuse_if (not (names (wants_of requests job) c.key)) NotPresent)
    (refuse_if (c.shared && list_any is_pooled (wants_at (requests_of requests job) c.key)) BadPool))

-- the group of a want that a change makes shared or exclusive: its own where it is so already, and else group 0
abbrev pub changed_group : Bool → Want → ℕ
changed_group true w = if w.shared then w.group else 0
changed_group false w = if w.shared then 0 else w.group

-- a want as the change of its key makes it, shared or exclusive, if there is one
abbrev pub changed_want : List Want → Want → Want
changed_want [] w = w
changed_want (c ∷ later) w =
    if same_key w.key c.key
    then record w { shared = c.shared; group = changed_group c.shared w }
    else changed_want later w

-- a request of the job with its wants changed, and another's as it is
abbrev pub changed : ℕ → List Want → Request → Request
changed job changes r = if r.job == job then with_wants r (map (changed_want changes) r.wants.items) else r

abbrev pub with_changes : List Request → ℕ → List Want → List Request
with_changes requests job changes = map (changed job changes) requests

-- two lists side by side, the second with the new forms of the first's requests: whether a request that is granted behind
-- `before` is not granted, in its new form, behind `after`, or a later one loses its grant so
abbrev pub some_lost_behind : List Request → List Request → List Request → List Request → Bool
some_lost_behind before after [] later = false
some_lost_behind before after (r ∷ rest) [] = false
some_lost_behind before after (r ∷ rest) (s ∷ later) =
    (granted_behind before r && not (granted_behind after s))
    || some_lost_behind (before ++ r ∷ []) (after ++ s ∷ []) rest later

-- whether a request that is granted in the first list is not granted in the second
abbrev pub some_lost : List Request → List Request → Bool
some_lost requests later = some_lost_behind [] [] requests later

-- function 3: the job's wants of the named keys become shared or exclusive, all of them or none; no grant is lost by it,
-- whosever it is
abbrev pub modify : List Request → ℕ → List Want → Outcome
modify requests job changes =
    unless_refused requests
    (or_else (first_refusal (modify_fault requests job) [] changes)
    (refuse_if (some_lost requests (with_changes requests job changes)) WouldLose))
    (outcome (with_changes requests job changes) Done)
