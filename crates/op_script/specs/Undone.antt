-- Why a command is not done, though it is in the grammar (this project's profile).
use Rattle.std.specs.Prelude.{ℕ, is_none, is_some, if◌then◌else◌, Option, Some, None}
use Rattle.machine.specs.Machine.{S}
use Rattle.machine.specs.Views.{job_view, word_in}
use Rattle.machine.specs.declared.event.RefusedEvent.{RefusedEvent}
use Rattle.machine.specs.declared.event.RefusedEvent.TheVariants.{NoSuchJob}
use Rattle.script_io.specs.declared.endings.Ending.{Ending}
use Rattle.op_script.specs.declared.line_ends.LineEnd.{LineEnd}
use Rattle.op_script.specs.declared.line_ends.Undone.{Undone}
use Rattle.op_script.specs.declared.line_ends.Undone.TheVariants.{Refused, NoWord}

-- an event that was refused, if it was
abbrev pub refused : Option RefusedEvent → Option Undone
refused (Some refusal) = Some (Refused refusal)
refused None = None

-- an EXAMINE of a job that is there: it has a word at the address, or none
abbrev pub without_word : Option ℕ → Option Undone
without_word word = if is_some word then None else Some NoWord

abbrev pub unexamined : S → ℕ → ℕ → Option Undone
unexamined s job a = if is_none (job_view s.world job) then Some (Refused NoSuchJob) else without_word (word_in s.world job a)

-- the script goes on after a line, whose command is not done for this reason, if there is one
abbrev pub going_on : Option Undone → LineEnd
going_on why = record { ending = None; undone = why }

-- the same after an event that was refused, or not
abbrev pub behind : Option RefusedEvent → LineEnd
behind refusal = going_on (refused refusal)

-- the script ends there, if there is an ending
abbrev pub ended_by : Option Ending → LineEnd
ended_by e = record { ending = e; undone = None }
