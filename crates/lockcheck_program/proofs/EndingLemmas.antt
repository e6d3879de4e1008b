-- A script is refused at the line at which its transcript ends.
use Rattle.std.proofs.Common.{◌==◌, ◌+◌, refl, cond, ℕ, Bool, true, false, List, [], ◌∷◌, Option, Some, None, Result, Ok, Err}
use Rattle.std.specs.Str.Lines.{lines}
use Rattle.lock_queue.specs.Jobs.{is_waiting_job}
use Rattle.lock_queue.specs.declared.request.Request.{Request}
use Rattle.lockcheck_orders.specs.declared.lines.Line.{Line}
use Rattle.lockcheck_orders.specs.declared.lines.TheConstants.{MOST_LINES}
use Rattle.queue_script.specs.Commands.{OwnedCommand, nothing, call, status, free, show, waits, quit, command_of}
use Rattle.queue_script.specs.QueueScripts.{Effect, call_effect, continued, effect_of, transcript, transcript_of}
use Rattle.script_io.specs.Transcripts.{Transcript}
use Rattle.script_io.specs.declared.endings.Ending.{Ending}
use Rattle.word36.specs.declared.sizes.TheConstants.{MOST_REQUESTS}
use Rattle.lockcheck_program.specs.Reading.{EndsAlike, in_front, lines_behind, onward, programs_of, taken_of}
use Rattle.lockcheck_program.specs.declared.reading.ScriptError.{ScriptError}
use Rattle.lockcheck_program.specs.declared.reading.ScriptError.TheVariants.{Memory, Line as RefusedLine, TooLong}

-- a line in front changes no end
front_alike : (l : Line) (r : Result (List Line) ScriptError) (e : Ending) → EndsAlike r e → EndsAlike (in_front l r) e
front_alike l (Ok more) e h = h
front_alike l (Err Memory) e h = h
front_alike l (Err (RefusedLine n)) e h = h
front_alike l (Err TooLong) e h = h

-- nor does BUSY
busy_alike : (r : Result (List Line) ScriptError) (t : List Request → Transcript Ending) (b : Bool) (x y : Effect)
    → EndsAlike r (continued x t).ending → EndsAlike r (continued y t).ending → EndsAlike r (continued (cond b x y) t).ending
busy_alike r t true x y p q = p
busy_alike r t false x y p q = q

line_alike : (size n : ℕ) (requests : List Request) (o : Option OwnedCommand) (r : Result (List Line) ScriptError) (t : List Request → Transcript Ending)
    → ((next : List Request) → EndsAlike r (t next).ending)
    → EndsAlike (onward (taken_of n o) r) (continued (effect_of size n requests o) t).ending
line_alike size n requests None r t h = refl
line_alike size n requests (Some nothing) r t h = h requests
line_alike size n requests (Some (call job (Ok c))) r t h =
    front_alike _ r _ (busy_alike r t (is_waiting_job requests job) _ (call_effect size requests job (Ok c)) (h requests) (h _))
line_alike size n requests (Some (call job (Err refusal))) r t h =
    front_alike _ r _ (busy_alike r t (is_waiting_job requests job) _ (call_effect size requests job (Err refusal)) (h requests) (h requests))
line_alike size n requests (Some (status job wants)) r t h = h requests
line_alike size n requests (Some (free job)) r t h = front_alike _ r _ (h _)
line_alike size n requests (Some show) r t h = h requests
line_alike size n requests (Some waits) r t h = h requests
line_alike size n requests (Some quit) r t h = refl

long_alike : (b : Bool) (r : Result (List Line) ScriptError) (e : Ending) → EndsAlike r e → EndsAlike (cond b (Err TooLong) r) e
long_alike true r e h = tt
long_alike false r e h = h

lines_alike : (size n : ℕ) (requests : List Request) (left : List (List ℕ)) → EndsAlike (lines_behind n left) (transcript_of size requests n left).ending
lines_alike size n requests [] = refl
lines_alike size n requests (line ∷ more) =
    long_alike (n == MOST_LINES) (onward (taken_of (n + 1) (command_of line)) (lines_behind (n + 1) more)) _
    (line_alike size (n + 1) requests (command_of line) (lines_behind (n + 1) more) (λ next. transcript_of size next (n + 1) more)
    (λ next. lines_alike size (n + 1) next more))

-- a script whose programs are read ends well, and one that is refused at a line ends there
pub script_alike : (script : List ℕ) → EndsAlike (programs_of script) (transcript script).ending
unfolding programs_of transcript
script_alike script = lines_alike MOST_REQUESTS 0 [] (lines script)
