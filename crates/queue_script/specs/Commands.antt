-- The commands of a script on the lock queue (this project's profile).
use Rattle.std.specs.Prelude.{◌==◌, ◌&&◌, ◌||◌, ℕ, Bool, true, List, [], ◌∷◌}
use Rattle.std.specs.Prelude.{length, Option, Some, None, Result, Ok, Err}
use Rattle.std.specs.Prelude.{if◌then◌else◌, codes, bytes_eq, nat_le, nat_lt, option_and_then, option_map, slice_index}
use Rattle.std.specs.List.{list_all}
use Rattle.arrayvec.specs.ArrayVec.{ArrayVec}
use Rattle.word36.specs.declared.sizes.TheConstants.{JOBS}
use Rattle.lock_queue.specs.declared.call.LockCall.{LockCall}
use Rattle.lock_queue.specs.declared.call.LockCall.TheVariants.{Enqueue, Modify, DequeueNamed, DequeueAll, DequeueId}
use Rattle.lock_queue.specs.declared.refusal.Refusal.{Refusal}
use Rattle.lock_queue.specs.declared.refusal.Refusal.TheVariants.{NoFunction}
use Rattle.lock_queue.specs.declared.request.EnqueueKind.{EnqueueKind}
use Rattle.lock_queue.specs.declared.request.EnqueueKind.TheVariants.{Blocking, AtOnce, Interrupt}
use Rattle.lock_queue.specs.declared.want.Want.{Want}
use Rattle.script_io.specs.Lines.{is_allowed, is_silent}
use Rattle.script_io.specs.Numbers.{number, parts}
use Rattle.queue_script.specs.Options.{half_of}
use Rattle.queue_script.specs.Locks.{locks_of, call_wants}
use Rattle.queue_script.specs.declared.call_room.TheConstants.{QUOTA}
use Rattle.lock_queue.specs.declared.terms.BlockUse.{BlockUse}
use Rattle.lock_queue.specs.declared.terms.BlockUse.TheVariants.{Full, Named}

-- ---- numbers

-- the number, where it is not 0
abbrev pub not_zero : Option ℕ → Option ℕ
not_zero None = None
not_zero (Some n) = if n == 0 then None else Some n

-- a job's number, 1 to 63
abbrev pub job_of : List ℕ → Option ℕ
job_of text = not_zero (number 10 JOBS text)

-- ---- commands

pub data OwnedCommand : Type 0 where
  nothing : OwnedCommand
  call : ℕ → Result LockCall Refusal → OwnedCommand
  status : ℕ → Result (ArrayVec Want) Refusal → OwnedCommand
  free : ℕ → OwnedCommand
  show : OwnedCommand
  waits : OwnedCommand
  quit : OwnedCommand

-- a job's call on the queue, or why it is refused before it is made
abbrev pub call_by : ℕ → Option (Result LockCall Refusal) → Option OwnedCommand
call_by job None = None
call_by job (Some c) = Some (call job c)

-- STAT: the statuses of the keys of some wants for a job, or why there are none
abbrev pub status_by : ℕ → Option (Result (ArrayVec Want) Refusal) → Option OwnedCommand
status_by job None = None
status_by job (Some wants) = Some (status job wants)

-- ---- ENQ and DEQ

-- the call on the queue for some wants, or why it is refused
abbrev pub call_with : (ArrayVec Want → LockCall) → Result (ArrayVec Want) Refusal → Result LockCall Refusal
call_with make (Ok wants) = Ok (make wants)
call_with make (Err refusal) = Err refusal

-- the call for the locks that some items spell
abbrev pub call_for : (ArrayVec Want → LockCall) → ℕ → BlockUse → List (List ℕ) → Option (Result LockCall Refusal)
call_for make job use_ items = option_map (λ locks. call_with make (call_wants job use_ locks)) (locks_of items)

-- ENQ 0 to 2: a request. A script sets no bound to the requests of a job: its quota is one more than the most requests
-- that a table is made for, so that no job ever has so many. And it sets no time limits
abbrev pub request_call : EnqueueKind → ℕ → ℕ → List (List ℕ) → Option (Result LockCall Refusal)
request_call kind id job items =
    call_for (Enqueue (record { kind = kind; id = id; armed = true; quota = QUOTA })) job Full items

-- ENQ 3: a change; DEQ 0: wants that are given up
abbrev pub change_call : ℕ → List (List ℕ) → Option (Result LockCall Refusal)
change_call job items = call_for Modify job Named items

abbrev pub release_call : ℕ → List (List ℕ) → Option (Result LockCall Refusal)
release_call job items = call_for DequeueNamed job Named items

-- an unknown function, whatever its locks
abbrev pub unknown_call : List (List ℕ) → Option (Result LockCall Refusal)
unknown_call items = option_map (λ locks. Err NoFunction) (locks_of items)

-- ENQ's call: function 0 blocks, 1 answers at once, 2 interrupts when granted, 3 changes
abbrev pub enqueue_call : ℕ → ℕ → ℕ → List (List ℕ) → Option (Result LockCall Refusal)
enqueue_call function id job items =
    if function == 0 then request_call Blocking id job items
    else (if function == 1 then request_call AtOnce id job items
    else (if function == 2 then request_call Interrupt id job items
    else (if function == 3 then change_call job items
    else unknown_call items)))

-- `j f id lock..`
abbrev pub enqueue_of : List (List ℕ) → Option OwnedCommand
enqueue_of (job ∷ function ∷ id ∷ locks) =
    option_and_then
    (λ j. option_and_then (λ f. option_and_then (λ i. call_by j (enqueue_call f i j locks)) (half_of id)) (half_of function))
    (job_of job)
enqueue_of _ = None

-- nothing: function 1
abbrev pub release_all_call : List (List ℕ) → Option (Result LockCall Refusal)
release_all_call [] = Some (Ok DequeueAll)
release_all_call (item ∷ more) = None

-- an id: function 2
abbrev pub release_id_call : List (List ℕ) → Option (Result LockCall Refusal)
release_id_call [] = None
release_id_call (id ∷ []) = option_map (λ i. Ok (DequeueId i)) (half_of id)
release_id_call (id ∷ item ∷ more) = None

-- DEQ's call: function 0 gives up what the locks name, 1 all, 2 the requests of an id
abbrev pub dequeue_call : ℕ → ℕ → List (List ℕ) → Option (Result LockCall Refusal)
dequeue_call function job rest =
    if function == 0 then release_call job rest
    else (if function == 1 then release_all_call rest
    else (if function == 2 then release_id_call rest
    else unknown_call rest))

-- `j f ..`
abbrev pub dequeue_of : List (List ℕ) → Option OwnedCommand
dequeue_of (job ∷ function ∷ rest) =
    option_and_then (λ j. option_and_then (λ f. call_by j (dequeue_call f j rest)) (half_of function)) (job_of job)
dequeue_of _ = None

-- ---- the other commands

-- STAT: `j lock..`
abbrev pub status_of_items : List (List ℕ) → Option OwnedCommand
status_of_items [] = None
status_of_items (job ∷ locks) =
    option_and_then (λ j. status_by j (option_map (call_wants j Named) (locks_of locks))) (job_of job)

-- FREE: `j`
abbrev pub free_of : List (List ℕ) → Option OwnedCommand
free_of (job ∷ []) = option_map free (job_of job)
free_of _ = None

-- a command that stands alone
abbrev pub bare : OwnedCommand → List (List ℕ) → Option OwnedCommand
bare command [] = Some command
bare command (item ∷ more) = None

-- ---- lines

-- the command of a line's items: its name and what follows
abbrev pub named_command : List ℕ → List (List ℕ) → Option OwnedCommand
named_command name rest =
    if bytes_eq name (codes "ENQ") then enqueue_of rest
    else (if bytes_eq name (codes "DEQ") then dequeue_of rest
    else (if bytes_eq name (codes "STAT") then status_of_items rest
    else (if bytes_eq name (codes "FREE") then free_of rest
    else (if bytes_eq name (codes "SHOW") then bare show rest
    else (if bytes_eq name (codes "WAITS") then bare waits rest
    else (if bytes_eq name (codes "QUIT") then bare quit rest
    else None))))))

abbrev pub command_of_items : List (List ℕ) → Option OwnedCommand
command_of_items [] = None
command_of_items (name ∷ rest) = named_command name rest

-- the command of a line that is in the grammar: items between single spaces
unfoldable pub command_of : List ℕ → Option OwnedCommand
command_of line =
    if is_allowed line then (if is_silent line then Some nothing else command_of_items (parts 32 line)) else None
