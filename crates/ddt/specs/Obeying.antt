-- What a typed line does to the machine and to a session (this project's profile).
use Rattle.std.specs.Prelude.{◌≡◌, ℕ, ◌-◌, ◌%◌, ◌^◌, ◌&&◌, Bool, true, false, IsTrue, not, nat_lt, is_some, List, [], ◌∷◌, slice_get, Option, Some, None, Result, Ok, Err, if◌then◌else◌}
use Rattle.std.specs.Borrow.{Bor}
use Rattle.machine.specs.Views.{job_view, word_in}
use Rattle.ddt_breakpoints.specs.declared.conditions.Condition.{Condition}
use Rattle.ddt_commands.specs.DotLines.{SaysLine}
use Rattle.ddt_commands.specs.declared.commands.Command.{Command}
use Rattle.ddt_commands.specs.declared.commands.Command.TheVariants as command
use Rattle.ddt_commands.specs.declared.commands.NewBreakpoint.{NewBreakpoint}
use Rattle.ddt_commands.specs.declared.line_errors.LineError.{LineError}
use Rattle.ddt_commands.specs.declared.values.Scope.{Scope}
use Rattle.ddt_commands.specs.declared.values.Symbol.{Symbol}
use Rattle.ddt_moves.specs.StopLists.{slot_by, with_breakpoint, words_with}
use Rattle.ddt_moves.specs.declared.stop_lists.Breakpoint.{Breakpoint}
use Rattle.ddt_moves.specs.declared.stop_lists.WatchedWord.{WatchedWord}
use Rattle.ddt_show.specs.declared.addresses.ShownJob.{ShownJob}
use Rattle.ddt_timeline.specs.Histories.{History, done, machine_of}
use Rattle.ddt_timeline.specs.declared.entries.Entry.TheVariants.{Deposit}
use Rattle.ddt.specs.declared.session.Session.{Session}
use Rattle.ddt.specs.declared.session.SessionJob.{SessionJob}

-- whether a command leaves the machine, and all that has happened to it, as it is: it shows something, opens addresses, or sets
-- stops
abbrev pub only_looks : Command → Bool
only_looks (command.Deposit word) = false
only_looks (command.Change address word) = false
only_looks command.Go = false
only_looks (command.GoAt address) = false
only_looks (command.Proceed times) = false
only_looks command.ProceedOn = false
only_looks (command.Execute count) = false
only_looks (command.ExecuteWord word) = false
only_looks command.ExecuteCall = false
only_looks (command.Step count) = false
only_looks (command.Run most) = false
only_looks (command.Tick count) = false
only_looks (command.Type line text) = false
only_looks command.Take = false
only_looks (command.Back steps) = false
only_looks (command.BackTo address) = false
only_looks (command.BackWrite address) = false
only_looks command.Forward = false
only_looks _ = true

-- a line that is no command leaves it too
abbrev pub leaves : Result Command LineError → Bool
leaves (Ok command) = only_looks command
leaves (Err e) = true

-- ---- the jobs of a session

-- a job that is pointed at
abbrev pub job_there : Option (Bor SessionJob) → Option SessionJob
job_there (Some job) = Some job.now
job_there None = None

abbrev pub shown_there : Option (Bor ShownJob) → Option ShownJob
shown_there (Some job) = Some job.now
shown_there None = None

-- the job of a number
abbrev pub job_of : Session → ℕ → Option SessionJob
job_of s number = slice_get s.jobs.items (number - 1)

-- the job by whose labels its addresses are shown: it, or that without labels
abbrev pub shown_by : Session → Option SessionJob → Option ShownJob
shown_by s (Some job) = Some (if s.is_absolute then s.bare else job.shown)
shown_by s None = None

abbrev pub shown_in : Session → ℕ → Option ShownJob
shown_in s number = shown_by s (job_of s number)

-- the symbols of a job are those of a session
abbrev pub symbols_in : Option SessionJob → List Symbol
symbols_in (Some job) = job.symbols.items
symbols_in None = []

abbrev pub symbols_of : Session → List Symbol
symbols_of s = symbols_in (job_of s s.open)

-- a scope has the values of symbols, `.` and `$Q` in a session
pub record IsScope (s : Session) (scope : Scope) : Type 0 where
  pub symbols_there : scope.symbols.now ≡ symbols_of s
  pub here_there : scope.here ≡ s.here % 2 ^ 36
  pub last_there : scope.last ≡ s.last

-- a line is read by the grammar of lines, and if what it says leaves the machine as it is, it does
pub record Obeys (s : Session) (line : List ℕ) (same : Type 0) : Type 0 where
  pub scope : Scope
  pub is_scope : IsScope s scope
  pub read : Result Command LineError
  pub says : SaysLine scope line read
  pub keeps : leaves read ≡ true → same

-- ---- words

-- the word of the open job at an address
abbrev pub open_word : Session → History → ℕ → Option ℕ
open_word s h address = word_in (machine_of h).world s.open address

-- whether a job is there
abbrev pub has_job : History → ℕ → Bool
has_job h number = is_some (job_view (machine_of h).world number)

-- an address is opened if the job has a word there, which is the last quantity then; else no other is opened
abbrev pub OpensAt : Session → Session → ℕ → Option ℕ → Type 0
OpensAt before after address (Some word) =
    (after.here ≡ address) × (after.last ≡ word) × (after.is_open ≡ true) × (after.is_mask ≡ false)
OpensAt before after address None =
    (after.here ≡ before.here) × (after.last ≡ before.last) × (after.is_open ≡ before.is_open) × (after.is_mask ≡ before.is_mask)

-- a word is deposited at an address, if the job has a word there
abbrev pub deposited_at : ℕ → ℕ → ℕ → Option ℕ → History → History
deposited_at job address word (Some old) h = done h (Deposit job address word ∷ [])
deposited_at job address word None h = h

-- whether a value that is typed goes to the address that is open
abbrev pub takes_word : Session → Bool
takes_word s = s.is_open && not s.is_mask

-- what has happened if a value was typed
abbrev pub after_deposit : Session → ℕ → History → History
after_deposit s word h = if takes_word s then deposited_at s.open s.here word (open_word s h s.here) h else h

-- and if it was typed after an address
abbrev pub after_change : Session → ℕ → ℕ → History → History
after_change s address word h = deposited_at s.open address word (open_word s h address) h

-- ---- stops

-- whether a condition, if there is one, is on a word that the open job has
abbrev pub condition_has_word : Session → History → Option Condition → Bool
condition_has_word s h (Some condition) = is_some (open_word s h condition.address)
condition_has_word s h None = true

-- the breakpoint of the open job that is wanted
abbrev pub breakpoint_of : Session → NewBreakpoint → Breakpoint
breakpoint_of s wanted =
    record { job = s.open; address = wanted.address; condition = wanted.condition; times = wanted.times }

-- the breakpoints with it
abbrev pub breakpoints_with : Session → NewBreakpoint → List (Option Breakpoint)
breakpoints_with s wanted =
    with_breakpoint (breakpoint_of s wanted) (slot_by wanted.number (breakpoint_of s wanted) s.list.breakpoints) s.list.breakpoints

-- a breakpoint is set at an address of core, with a condition on a word that is there
abbrev pub breakpoints_after : Session → History → NewBreakpoint → List (Option Breakpoint)
breakpoints_after s h wanted =
    if nat_lt wanted.address (2 ^ 18) && condition_has_word s h wanted.condition then breakpoints_with s wanted
    else s.list.breakpoints

-- a word is watched, or no longer, if the job has it
abbrev pub words_after : Session → ℕ → Option ℕ → List WatchedWord
words_after s address (Some word) = words_with (record { job = s.open; address = address }) s.list.words.items
words_after s address None = s.list.words.items
