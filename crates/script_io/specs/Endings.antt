-- How scripts and sources end, and how the answer of a serving call says so (this project's profile).
use Rattle.std.specs.Prelude.{ℕ, [], ◌∷◌, ◌++◌, Result, Ok, Err, codes, decimal}
use Rattle.script_io.specs.Transcripts.{Transcript, closed}
use Rattle.script_io.specs.declared.failures.ServeFailure.{ServeFailure}
use Rattle.script_io.specs.declared.failures.ServeFailure.TheVariants as failure
use Rattle.script_io.specs.declared.endings.Ending.{Ending}
use Rattle.script_io.specs.declared.endings.Ending.TheVariants as ending
use Rattle.script_io.specs.declared.endings.ServeError.{ServeError}
use Rattle.script_io.specs.declared.endings.ServeError.TheVariants as error

-- a line that is not in the grammar is reported by its number, and ends the script
abbrev pub script_fault : ℕ → Transcript Ending
script_fault number = closed (codes "?SCRIPT " ++ decimal number ++ 10 ∷ []) (ending.Script number)

-- the ending for which this is the answer, or the failure that cut the serving short
abbrev pub served_as : Result (Unit {0}) ServeError → Result Ending ServeFailure
served_as (Ok u) = Ok ending.Done
served_as (Err (error.Script number)) = Ok (ending.Script number)
served_as (Err (error.Source fault)) = Ok (ending.Source fault)
served_as (Err error.Read) = Err failure.Read
served_as (Err error.Write) = Err failure.Write
served_as (Err error.Memory) = Err failure.Memory
