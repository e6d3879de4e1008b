-- The numbers of the refusals (this project's profile).
use Rattle.std.specs.Prelude.{ℕ}
use Rattle.machine.specs.declared.event.RefusedEvent.{RefusedEvent}
use Rattle.machine.specs.declared.event.RefusedEvent.TheVariants.{NoLine, LineBusy, NoJobNumber, NoCore, NoSuchJob, NotStopped, Full}
use Rattle.machine.specs.declared.event.RefusedEvent.TheVariants.{BadImage}

-- the number in scripts
abbrev pub code_of : RefusedEvent → ℕ
code_of NoLine = 1
code_of LineBusy = 2
code_of NoJobNumber = 3
code_of NoCore = 4
code_of NoSuchJob = 5
code_of NotStopped = 6
code_of Full = 7
code_of BadImage = 8
