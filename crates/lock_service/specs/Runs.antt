-- Lists of calls of the service: the list of requests after them, and the answers to them (this project's profile).
use Rattle.std.specs.Prelude.{List, [], ◌∷◌, Ok}
use Rattle.lock_queue.specs.declared.call.LockCall.TheVariants.{DequeueAll as GiveUpAll}
use Rattle.lock_queue.specs.declared.request.Request.{Request}
use Rattle.lock_service.specs.Effects.{Effect, job_effect, enqueue_call, modify_call, dequeue_call, dequeue_id_call, release_effect, withdraw_effect}
use Rattle.lock_service.specs.declared.runs.Answer.{Answer}
use Rattle.lock_service.specs.declared.runs.ServiceCall.{ServiceCall}
use Rattle.lock_service.specs.declared.runs.ServiceCall.TheVariants.{Enqueue, Modify, Dequeue, DequeueAll, DequeueId, Release, Withdraw}

-- what a call does to the requests that are present
abbrev pub effect_of : ServiceCall → List Request → Effect
effect_of (Enqueue job kind id quota terms) = job_effect job (enqueue_call job kind id quota terms.now)
effect_of (Modify job terms) = job_effect job (modify_call job terms.now)
effect_of (Dequeue job terms) = job_effect job (dequeue_call job terms.now)
effect_of (DequeueAll job) = job_effect job (Ok GiveUpAll)
effect_of (DequeueId job id) = job_effect job (dequeue_id_call id)
effect_of (Release job) = release_effect job
effect_of (Withdraw jobs) = withdraw_effect jobs

-- what is told of an effect
abbrev pub answer_of : Effect → Answer
answer_of effect = record { code = effect.code; grants = record { items = effect.grants } }

-- the list of requests after some calls
abbrev pub list_after : List Request → List ServiceCall → List Request
list_after requests [] = requests
list_after requests (call ∷ later) = list_after (effect_of call requests).requests later

-- the answers to them
abbrev pub answers_to : List Request → List ServiceCall → List Answer
answers_to requests [] = []
answers_to requests (call ∷ later) = answer_of (effect_of call requests) ∷ answers_to (effect_of call requests).requests later
