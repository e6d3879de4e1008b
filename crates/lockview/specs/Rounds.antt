-- What a line of a script of `lockmon run` has happen many times (this project's profile).
use Rattle.std.specs.Prelude.{ℕ, zero, suc, ◌-◌, List, [], Option, Some, None, if◌then◌else◌}
use Rattle.machine.specs.Machine.{S, happens}
use Rattle.machine.specs.declared.event.Event.TheVariants as event
use Rattle.script_io.specs.Lines.{is_allowed}
use Rattle.run_commands.specs.Commands.{command_of}
use Rattle.op_script.specs.Sources.{SourceText}
use Rattle.run_commands.specs.declared.commands.Command.{Command}
use Rattle.run_commands.specs.declared.commands.Command.TheVariants as command
use Rattle.run_events.specs.Facts.{facts_of_step, facts_of_tick}
use Rattle.run_events.specs.declared.facts.Fact.{Fact}
use Rattle.lockview.specs.declared.run_lines.Repeated.{Repeated}
use Rattle.lockview.specs.declared.run_lines.Repeated.TheVariants.{Step, Round, Tick}

-- ---- which lines

abbrev pub repeated_of : Option Command → Option (Repeated × ℕ)
repeated_of (Some (command.Step n)) = Some (Step, n)
repeated_of (Some (command.Run n)) = Some (Round, n)
repeated_of (Some (command.Tick n)) = Some (Tick, n)
repeated_of _ = None

-- a line of a source has nothing happen
abbrev pub repeated_by : Option SourceText → List ℕ → Option (Repeated × ℕ)
repeated_by (Some source) line = None
repeated_by None line = if is_allowed line then repeated_of (command_of line) else None

-- ---- what happens

-- one of them: a step, a round, which is a step and a tick, or a tick
abbrev pub one : Repeated → S → S
one Step s = (happens s event.Step).state
one Round s = (happens (happens s event.Step).state event.Tick).state
one Tick s = (happens s event.Tick).state

-- n of them
abbrev pub passed : Repeated → ℕ → S → S
passed r zero s = s
passed r (suc n) s = passed r n (one r s)

-- n of them but for the last tick
abbrev pub stepped : Repeated → ℕ → S → S
stepped Step n s = (happens (passed Step (n - 1) s) event.Step).state
stepped Round n s = (happens (passed Round (n - 1) s) event.Step).state
stepped Tick n s = passed Tick (n - 1) s

-- that tick, if there is one
abbrev pub tick_of : Repeated → S → S
tick_of Step s = s
tick_of Round s = (happens s event.Tick).state
tick_of Tick s = (happens s event.Tick).state

-- and its facts
abbrev pub tick_facts_of : Repeated → S → List Fact
tick_facts_of Step s = []
tick_facts_of Round s = facts_of_tick s
tick_facts_of Tick s = facts_of_tick s

-- the facts of the last of n steps
abbrev pub step_facts_of : Repeated → ℕ → S → List Fact
step_facts_of Step n s = facts_of_step (passed Step (n - 1) s)
step_facts_of Round n s = facts_of_step (passed Round (n - 1) s)
step_facts_of Tick n s = []
