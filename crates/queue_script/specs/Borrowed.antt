-- The values of what the code borrows: its `Command` borrows the call or the wants from where they were filled in.
use Rattle.std.specs.Prelude.{Option, Some, None, Result, Ok, Err}
use Rattle.std.specs.Borrow.{Bor}
use Rattle.lock_queue.specs.declared.refusal.Refusal.{Refusal}
use Rattle.queue_script.specs.Commands.{OwnedCommand, nothing, call, status, free, show, waits, quit}
use Rattle.queue_script.specs.declared.commands.Command.{Command}
use Rattle.queue_script.specs.declared.commands.Command.TheVariants.{Nothing, Call, Refused, Status, Free, Show, Waits, Quit}
use Rattle.lock_queue.specs.declared.call.LockCall.{LockCall}
use Rattle.queue_script.specs.declared.call_room.ReadCall.{ReadCall}
use Rattle.queue_script.specs.declared.call_room.ReadCall.TheVariants as asked
use Rattle.queue_script.specs.declared.locks.StoreOutcome.{StoreOutcome}
use Rattle.queue_script.specs.declared.locks.StoreOutcome.TheVariants as outcome

-- what was filled in, where it was not refused
abbrev pub filled : {T : Type 0} → StoreOutcome → T → Option (Result T Refusal)
filled outcome.NoLock value = None
filled outcome.Stored value = Some (Ok value)
filled (outcome.Refused refusal) value = Some (Err refusal)

-- the value of a loan
abbrev pub lent : {T : Type 0} → Result (Bor T) Refusal → Result T Refusal
lent (Ok value) = Ok value.now
lent (Err refusal) = Err refusal

abbrev pub lent_by : {T : Type 0} → Option (Result (Bor T) Refusal) → Option (Result T Refusal)
lent_by None = None
lent_by (Some answer) = Some (lent answer)

-- the call that items spell, or why it is refused
abbrev pub owned_call : ReadCall → Option (Result LockCall Refusal)
owned_call asked.NoCall = None
owned_call (asked.Call made) = Some (Ok made.now)
owned_call (asked.Refused refusal) = Some (Err refusal)

-- a command with its call or wants
abbrev pub owned_of : Command → OwnedCommand
owned_of Nothing = nothing
owned_of (Call job made) = call job (Ok made.now)
owned_of (Refused job refusal) = call job (Err refusal)
owned_of (Status job wants) = status job (lent wants)
owned_of (Free job) = free job
owned_of Show = show
owned_of Waits = waits
owned_of Quit = quit

abbrev pub owned_command : Option Command → Option OwnedCommand
owned_command None = None
owned_command (Some command) = Some (owned_of command)
