-- How the lines of a script of `lockmon queue` become programs (this project's profile).
use Rattle.std.specs.Prelude.{◌≡◌, ◌==◌, ◌++◌, ℕ, ◌+◌, Bool, true, List, [], ◌∷◌, Option, Some, None, Result, Ok, Err, if◌then◌else◌}
use Rattle.std.specs.Str.Lines.{lines}
use Rattle.lock_queue.specs.WellFormed.{is_job}
use Rattle.lockcheck_orders.specs.Programs.{is_right_line}
use Rattle.lockcheck_orders.specs.declared.lines.Line.{Line}
use Rattle.lockcheck_orders.specs.declared.lines.Step.TheVariants as step
use Rattle.lockcheck_orders.specs.declared.lines.TheConstants.{MOST_LINES}
use Rattle.script_io.specs.declared.endings.Ending.{Ending}
use Rattle.script_io.specs.declared.endings.Ending.TheVariants as ending
use Rattle.queue_script.specs.Commands.{OwnedCommand, nothing, call, status, free, show, waits, quit, command_of}
use Rattle.lockcheck_program.specs.declared.reading.ScriptError.{ScriptError}
use Rattle.lockcheck_program.specs.declared.reading.ScriptError.TheVariants.{Memory, Line as RefusedLine, TooLong}
use Rattle.lockcheck_program.specs.declared.reading.Taken.{Taken}
use Rattle.lockcheck_program.specs.declared.reading.Taken.TheVariants as taken

-- what line n, which has this command, is to the programs: ENQ, DEQ and FREE are lines of their jobs, QUIT ends the script, a
-- line that is not in the grammar is refused, and the others are passed over
abbrev pub taken_of : ℕ → Option OwnedCommand → Result Taken ScriptError
taken_of n None = Err (RefusedLine n)
taken_of n (Some nothing) = Ok taken.Nothing
taken_of n (Some (call job (Ok c))) = Ok (taken.Line (record { number = n; job = job; step = step.Call c }))
taken_of n (Some (call job (Err refusal))) = Ok (taken.Line (record { number = n; job = job; step = step.Refused refusal }))
taken_of n (Some (status job wants)) = Ok taken.Nothing
taken_of n (Some (free job)) = Ok (taken.Line (record { number = n; job = job; step = step.Free }))
taken_of n (Some show) = Ok taken.Nothing
taken_of n (Some waits) = Ok taken.Nothing
taken_of n (Some quit) = Ok taken.End

-- a line in front of others; where one of these is refused, all are
abbrev pub in_front : Line → Result (List Line) ScriptError → Result (List Line) ScriptError
in_front l (Ok more) = Ok (l ∷ more)
in_front l (Err e) = Err e

-- a line of the script, and what follows
abbrev pub onward : Result Taken ScriptError → Result (List Line) ScriptError → Result (List Line) ScriptError
onward (Err e) more = Err e
onward (Ok taken.Nothing) more = more
onward (Ok taken.End) more = Ok []
onward (Ok (taken.Line l)) more = in_front l more

-- the programs' lines among those that follow n others
abbrev pub lines_behind : ℕ → List (List ℕ) → Result (List Line) ScriptError
lines_behind n [] = Ok []
lines_behind n (line ∷ more) =
    if n == MOST_LINES then Err TooLong else onward (taken_of (n + 1) (command_of line)) (lines_behind (n + 1) more)

-- the programs of a script: its lines of ENQ, DEQ and FREE, in order, up to QUIT or its end; or why it is refused: its first line
-- that is not in the grammar, or that it goes on behind the last line that is read
unfoldable pub programs_of : List ℕ → Result (List Line) ScriptError
programs_of script = lines_behind 0 (lines script)

-- why there are no programs: for want of memory, or for this reason
abbrev pub IsReason : Result (List Line) ScriptError → ScriptError → Type 0
IsReason programs Memory = Unit {0}
IsReason programs (RefusedLine n) = programs ≡ Err (RefusedLine n)
IsReason programs TooLong = programs ≡ Err TooLong

-- a script whose programs are read has a transcript that ends well, and one that is refused at a line has one that ends there
abbrev pub EndsAlike : Result (List Line) ScriptError → Ending → Type 0
EndsAlike (Ok programs) e = e ≡ ending.Done
EndsAlike (Err (RefusedLine n)) e = e ≡ ending.Script n
EndsAlike (Err TooLong) e = Unit {0}
EndsAlike (Err Memory) e = Unit {0}

-- ---- what the code relies on

-- whoever makes a call or leaves is a job
abbrev pub is_by_job : Option OwnedCommand → Bool
is_by_job None = true
is_by_job (Some nothing) = true
is_by_job (Some (call job c)) = is_job job
is_by_job (Some (status job wants)) = true
is_by_job (Some (free job)) = is_job job
is_by_job (Some show) = true
is_by_job (Some waits) = true
is_by_job (Some quit) = true

abbrev pub is_right_taken : Taken → Bool
is_right_taken taken.Nothing = true
is_right_taken taken.End = true
is_right_taken (taken.Line l) = is_right_line l

-- these lines in front of others
abbrev pub joined : List Line → Result (List Line) ScriptError → Result (List Line) ScriptError
joined kept (Ok more) = Ok (kept ++ more)
joined kept (Err e) = Err e
