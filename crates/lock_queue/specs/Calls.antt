-- The list of requests after each call, and the call's answer (ENQ/DEQ of the TOPS-10 Monitor Calls Manual, in
-- this project's profile).
use Rattle.std.specs.Prelude.{ℕ, List, [], ◌∷◌}
use Rattle.lock_queue.specs.declared.call.LockCall.{LockCall}
use Rattle.lock_queue.specs.declared.call.LockCall.TheVariants.{Enqueue, Modify, DequeueNamed, DequeueAll, DequeueId}
use Rattle.lock_queue.specs.declared.call.LockReply.{LockReply}
use Rattle.lock_queue.specs.declared.request.Request.{Request}
use Rattle.lock_queue.specs.Changes.{modify}
use Rattle.lock_queue.specs.Dequeues.{dequeue_named, dequeue_all, dequeue_id}
use Rattle.lock_queue.specs.Enqueues.{enqueue}
use Rattle.lock_queue.specs.Outcomes.{Outcome}

-- the outcome of a job's call in a queue of some size
abbrev pub outcome_of : ℕ → List Request → ℕ → LockCall → Outcome
outcome_of size requests job (Enqueue asking wants) = enqueue size requests job asking wants
outcome_of size requests job (Modify wants) = modify requests job wants.items
outcome_of size requests job (DequeueNamed wants) = dequeue_named requests job wants.items
outcome_of size requests job DequeueAll = dequeue_all requests job
outcome_of size requests job (DequeueId id) = dequeue_id requests job id

-- the requests after a list of calls, each with its job, and the answers to them
abbrev pub requests_after : ℕ → List Request → List (ℕ × LockCall) → List Request
requests_after size requests [] = requests
requests_after size requests (c ∷ later) = requests_after size (outcome_of size requests c.0 c.1).requests later

abbrev pub replies_to : ℕ → List Request → List (ℕ × LockCall) → List LockReply
replies_to size requests [] = []
replies_to size requests (c ∷ later) =
    (outcome_of size requests c.0 c.1).reply ∷ replies_to size (outcome_of size requests c.0 c.1).requests later
