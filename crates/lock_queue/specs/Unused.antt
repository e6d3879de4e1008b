-- What unused slots and unused elements hold (this project's profile).
use Rattle.std.specs.Prelude.{false, [], None}
use Rattle.lock_queue.specs.declared.key.Scope.TheVariants.{All}
use Rattle.lock_queue.specs.declared.name.Name.TheVariants.{Code}
use Rattle.lock_queue.specs.declared.request.EnqueueKind.TheVariants.{AtOnce}
use Rattle.lock_queue.specs.declared.request.Request.{Request}
use Rattle.lock_queue.specs.declared.want.Want.{Want}

-- an exclusive want of the user code 0
abbrev pub unused_want : Want
unused_want = record { key = record { scope = All; name = Code 0 }; shared = false; group = 0; bypass = false; level = 0; pool = None }

-- a request of job 0 without wants
abbrev pub unused_request : Request
unused_request = record { job = 0; id = 0; kind = AtOnce; notified = false; wants = record { items = [] } }
