-- Why a script of `lockmon run` is not drawn (this project's profile).
use Rattle.std.specs.Prelude.{◌≡◌, ◌<◌, ◌≤◌, ◌+◌, ℕ, List, [], ◌∷◌, Option, IsSome, is_none, if◌then◌else◌, false, true}
use Rattle.std.specs.Str.Lines.{lines}
use Rattle.machine.specs.Setups.{Setup}
use Rattle.op_script.specs.RunScripts.{fresh, line_effect}
use Rattle.op_script.specs.ScriptStates.{StateValue}
use Rattle.lock_bars.specs.Courses.{has_line}
use Rattle.lock_bars.specs.declared.errors.ScriptError.{ScriptError}
use Rattle.lock_bars.specs.declared.errors.ScriptError.TheVariants.{Memory, Line, TooLong, Short, NoEnd, Source}
use Rattle.lock_bars.specs.declared.errors.TheConstants.{MOST_LINES}

-- a line is refused by its own number, or for its source, or there is no memory
abbrev pub IsLineFault : ℕ → ScriptError → Type 0
IsLineFault number Memory = Unit {0}
IsLineFault number (Line n) = n ≡ number
IsLineFault number TooLong = false ≡ true
IsLineFault number (Short n) = false ≡ true
IsLineFault number (NoEnd n) = false ≡ true
IsLineFault number (Source fault) = Unit {0}

-- how many lines are done, if n were and left this state: those before the line at which the script ends
abbrev pub lines_done : StateValue → ℕ → List (List ℕ) → ℕ
lines_done d n [] = n
lines_done d n (line ∷ more) =
    if is_none (line_effect (n + 1) d line).ending then lines_done (line_effect (n + 1) d line).state (n + 1) more else n

-- of a script on a machine of this size
abbrev pub script_lines_done : Setup → List ℕ → ℕ
script_lines_done setup script = lines_done (fresh setup.blocks setup.quantum) 0 (lines script)

-- a script of n lines, of which some are done, is refused for its length only if it has more than are drawn, if it
-- ends before the line that is asked for, or if its last line is in a source; and a line is refused only if the script
-- has it
abbrev pub IsLengthFault : Option ℕ → ℕ → ℕ → ScriptError → Type 0
IsLengthFault at done count Memory = Unit {0}
IsLengthFault at done count (Line n) = (1 ≤ n) × (n ≤ count)
IsLengthFault at done count TooLong = MOST_LINES < count
IsLengthFault at done count (Short n) = (n ≡ done) × IsSome at × (has_line n at ≡ false)
IsLengthFault at done count (NoEnd n) = n ≡ count
IsLengthFault at done count (Source fault) = Unit {0}
