-- The transcript of a script on the machine (this project's profile).
use Rattle.std.specs.Prelude.{ℕ, ◌+◌, ◌-◌, Bool, true, false, List, [], ◌∷◌}
use Rattle.std.specs.Prelude.{◌++◌, length, Option, Some, None, Result, Ok}
use Rattle.std.specs.Prelude.{Err, if◌then◌else◌, codes, bytes_eq, slice_index, replicate, is_none}
use Rattle.std.specs.List.{flat_map}
use Rattle.std.specs.Str.Lines.{lines}
use Rattle.mac_asm.specs.Assembly.{Assembled}
use Rattle.mac_layout.specs.Faults.{Fault}
use Rattle.mac_asm.specs.Outcome.{outcome_of}
use Rattle.word36.specs.declared.sizes.TheConstants.{MOST_REQUESTS, TAKEN_AT_ONCE}
use Rattle.machine.specs.Machine.{S, Made, happens, after as after_all, logged_in, at_boot}
use Rattle.machine.specs.Views.{job_view, word_in}
use Rattle.machine.specs.declared.event.Event.TheVariants as event
use Rattle.machine.specs.declared.event.RefusedEvent.TheVariants.{NoSuchJob}
use Rattle.script_io.specs.Lines.{is_allowed}
use Rattle.asm_script.specs.Listings.{fault_behind, fault_text}
use Rattle.queue_script.specs.QueueScripts.{show_text}
use Rattle.lock_queue.specs.Waits.{jobs}
use Rattle.queue_script.specs.WaitPairs.{waits_text}
use Rattle.script_io.specs.Endings.{script_fault}
use Rattle.script_io.specs.declared.endings.Ending.{Ending}
use Rattle.script_io.specs.declared.endings.Ending.TheVariants as ending
use Rattle.script_io.specs.Transcripts.{Transcript, after, closed, unless_ended}
use Rattle.run_commands.specs.Commands.{command_of}
use Rattle.op_script.specs.ScriptStates.{StateValue}
use Rattle.op_script.specs.Events.{after_steps, steps_run, refusal_in, Typing, typed_by, Taking, taken_by}
use Rattle.op_script.specs.Images.{Named, image_of, with_image}
use Rattle.op_script.specs.Printing.{answer_line, ran_line, done_line, taken_line, image_line}
use Rattle.op_script.specs.Printing.{refused_line, job_line, address_line, word_line}
use Rattle.op_script.specs.Sources.{SourceText, empty_source, with_line}
use Rattle.op_script.specs.Undone.{refused, unexamined}
use Rattle.run_commands.specs.declared.commands.Command.{Command}
use Rattle.run_commands.specs.declared.commands.Command.TheVariants as command
use Rattle.op_script.specs.declared.line_ends.LineEnd.{LineEnd}
use Rattle.op_script.specs.declared.line_ends.Undone.{Undone}
use Rattle.machine.specs.declared.sizes.TheConstants.{MOST_TAKES}

-- what a line does: the machine, the images and the source afterwards, what it writes, how the script ends, if it ends
-- there, and why its command is not done, if it is not
pub record Effect : Type 0 where
  pub state : StateValue
  pub text : List ℕ
  pub ending : Option Ending
  pub undone : Option Undone

-- how a line ends, and why its command is not done
abbrev pub end_of : Effect → LineEnd
end_of e = record { ending = e.ending; undone = e.undone }

-- the script goes on, whether the command is done or not
abbrev pub goes_behind : StateValue → List ℕ → Option Undone → Effect
goes_behind d text why = record { state = d; text = text; ending = None; undone = why }

-- the script goes on
abbrev pub goes : StateValue → List ℕ → Effect
goes d text = goes_behind d text None

-- the script ends
abbrev pub ends : StateValue → List ℕ → Ending → Effect
ends d text e = record { state = d; text = text; ending = Some e; undone = None }

-- line n is not in the grammar
abbrev pub fault : ℕ → StateValue → Effect
fault n d = ends d (script_fault n).text (ending.Script n)

-- ---- events

abbrev pub with_machine : StateValue → S → StateValue
with_machine d s = record d { machine = s }

-- one event, whose answer is written
abbrev pub answered : StateValue → Made → Effect
answered d m = goes_behind (with_machine d m.state) (answer_line m.answer) (refused (refusal_in m.answer))

-- LOGIN: an image that is not known is a fault of the script
abbrev pub login_effect : ℕ → StateValue → ℕ → Option Assembled → Effect
login_effect n d line None = fault n d
login_effect n d line (Some image) = answered d (logged_in d.machine line image.words image.start)

-- STEP and RUN: so many steps, and in how many of them a job ran
abbrev pub steps_effect : StateValue → ℕ → Bool → Effect
steps_effect d most ticking =
    let ran = steps_run most ticking d.machine in
    goes (with_machine d (after_steps most ticking d.machine)) (ran_line ran (most - ran))

abbrev pub typing_effect : StateValue → Typing → Effect
typing_effect d t = goes_behind (with_machine d t.machine) (done_line t.refusal) (refused t.refusal)

abbrev pub taking_effect : StateValue → Taking → Effect
taking_effect d t = goes_behind (with_machine d t.machine) (taken_line t.refusal t.text) (refused t.refusal)

-- ---- showing

-- SHOW JOBS: a line for each job, by number
abbrev pub jobs_text : S → List ℕ
jobs_text s = flat_map (λ n. job_line n (job_view s.world n)) jobs ++ codes "END\n"

-- EXAMINE: a job has to be there
abbrev pub examined_text : S → ℕ → ℕ → List ℕ
examined_text s job a =
    if is_none (job_view s.world job) then refused_line NoSuchJob else address_line a (word_in s.world job a)

-- ---- commands

-- what line n, which has this command, does; a line that is not in the grammar ends the script
abbrev pub effect_of : ℕ → StateValue → Option Command → Effect
effect_of n d None = fault n d
effect_of n d (Some command.Nothing) = goes d []
effect_of n d (Some (command.Assemble name)) = goes (record d { source = Some (empty_source name n) }) []
effect_of n d (Some (command.Login line name)) = login_effect n d line (image_of d.images name)
effect_of n d (Some (command.Step most)) = steps_effect d most false
effect_of n d (Some (command.Run most)) = steps_effect d most true
effect_of n d (Some (command.Tick ticks)) = goes (with_machine d (after_all (replicate ticks event.Tick) d.machine)) (done_line None)
effect_of n d (Some (command.Typed line text)) = typing_effect d (typed_by text d.machine line)
effect_of n d (Some (command.Take line)) = taking_effect d (taken_by MOST_TAKES (event.Take line TAKEN_AT_ONCE) d.machine)
effect_of n d (Some (command.Start job)) = answered d (happens d.machine (event.Start job))
effect_of n d (Some (command.Continue job)) = answered d (happens d.machine (event.Continue job))
effect_of n d (Some (command.Kill job)) = answered d (happens d.machine (event.Kill job))
effect_of n d (Some command.Restart) = answered d (happens d.machine event.Restart)
effect_of n d (Some command.ShowJobs) = goes d (jobs_text d.machine)
effect_of n d (Some command.ShowLocks) = goes d (show_text d.machine.world.requests)
effect_of n d (Some command.ShowWaits) = goes d (waits_text d.machine.world.requests)
effect_of n d (Some (command.Examine job a)) = goes_behind d (examined_text d.machine job a) (unexamined d.machine job a)
effect_of n d (Some (command.Data i)) = goes d (word_line (slice_index d.machine.world.shared i))
effect_of n d (Some command.Quit) = ends d [] ending.Done

-- ---- sources

-- the images where a source is whole: its image is one of them, unless the source is at fault
abbrev pub defined : Named → List ℕ → Result Assembled Fault → Named
defined images name (Ok image) = with_image images name image
defined images name (Err wrong) = images

abbrev pub assembled_text : List ℕ → Result Assembled Fault → List ℕ
assembled_text name (Ok image) = image_line name (length image.words)
assembled_text name (Err wrong) = fault_text wrong

-- a source at fault ends the script
abbrev pub assembled_ending : ℕ → Result Assembled Fault → Option Ending
assembled_ending before (Ok image) = None
assembled_ending before (Err wrong) = Some (ending.Source (fault_behind before wrong))

abbrev pub assembled_effect : StateValue → SourceText → Result Assembled Fault → Effect
assembled_effect d source outcome = record {
  state = record d { images = defined d.images source.name outcome; source = None };
  text = assembled_text source.name outcome;
  ending = assembled_ending source.before outcome;
  undone = None;
}

-- ENDASM ends a source; every other line belongs to it
abbrev pub source_effect : StateValue → SourceText → List ℕ → Effect
source_effect d source line =
    if bytes_eq line (codes "ENDASM")
    then assembled_effect d source (outcome_of source.text)
    else goes (record d { source = Some (with_line source line) }) []

-- ---- lines

abbrev pub allowed_effect : ℕ → StateValue → Option SourceText → List ℕ → Effect
allowed_effect n d (Some source) line = source_effect d source line
allowed_effect n d None line = effect_of n d (command_of line)

-- what line n does: a command, or a line of a source
abbrev pub line_effect : ℕ → StateValue → List ℕ → Effect
line_effect n d line = if is_allowed line then allowed_effect n d d.source line else fault n d

-- the line's text, and then what follows, unless the script ends
abbrev pub continued : Effect → (StateValue → Transcript Ending) → Transcript Ending
continued e rest = after e.text (unless_ended e.ending (rest e.state))

-- the input ends behind line n: a source without ENDASM is a fault of the next line
abbrev pub at_end : ℕ → Option SourceText → Transcript Ending
at_end n None = closed [] ending.Done
at_end n (Some source) = script_fault (n + 1)

-- the transcript of lines behind n lines that left this state
abbrev pub transcript_of : StateValue → ℕ → List (List ℕ) → Transcript Ending
transcript_of d n [] = at_end n d.source
transcript_of d n (line ∷ more) =
    continued (line_effect (n + 1) d line) (λ next. transcript_of next (n + 1) more)

-- a machine from a fresh boot, whose lock table is of the largest size, without images
abbrev pub fresh : ℕ → ℕ → StateValue
fresh blocks quantum = record { machine = at_boot MOST_REQUESTS blocks quantum; images = []; source = None }

-- what a script writes on a machine of so many blocks and a quantum of so many ticks, and how it ends
unfoldable pub transcript : ℕ → ℕ → List ℕ → Transcript Ending
transcript blocks quantum bytes = transcript_of (fresh blocks quantum) 0 (lines bytes)
