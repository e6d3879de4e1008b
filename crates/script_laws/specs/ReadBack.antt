-- The lines of a run as `lockmon run` reads them (this project's profile).
use Rattle.std.specs.Prelude.{◌≡◌, ◌≢◌, ◌==◌, ◌<◌, ◌≤◌, ℕ, Bool, All, List, [], ◌∷◌, ◌++◌, Some, codes, decimal, map, if◌then◌else◌}
use Rattle.run_commands.specs.Commands.{command_of}
use Rattle.run_commands.specs.declared.commands.Command.{Command}
use Rattle.run_commands.specs.declared.commands.Command.TheVariants as command
use Rattle.run_record.specs.Scripts.{counted, lines_of, program_name}
use Rattle.run_record.specs.declared.pieces.Piece.{Piece}
use Rattle.run_record.specs.declared.pieces.Piece.TheVariants as piece

-- RUN, where there are rounds
abbrev pub run_commands : ℕ → List Command
run_commands n = if n == 0 then [] else command.Run n ∷ []

-- STEP, where there is one step more
abbrev pub step_commands : Bool → List Command
step_commands stepped = if stepped then command.Step 1 ∷ [] else []

-- the commands of a piece
abbrev pub commands_of : Piece → List Command
commands_of (piece.Login line program) = command.Login line (program_name program) ∷ []
commands_of (piece.Start job) = command.Start job ∷ []
commands_of (piece.Continue job) = command.Continue job ∷ []
commands_of (piece.Kill job) = command.Kill job ∷ []
commands_of piece.Restart = command.Restart ∷ []
commands_of (piece.Rounds n stepped) = run_commands n ++ step_commands stepped
commands_of (piece.Ticks n) = command.Tick n ∷ []
commands_of (piece.Typed line text) = command.Typed line text.items ∷ []
commands_of (piece.Take line) = command.Take line ∷ []

-- a piece with numbers that its commands take; what is typed has at least one character, of 7 bits
abbrev pub IsPlain : Piece → Type 0
IsPlain (piece.Login line program) = (line ≤ 255) × (program ≤ 255)
IsPlain (piece.Start job) = job ≤ 255
IsPlain (piece.Continue job) = job ≤ 255
IsPlain (piece.Kill job) = job ≤ 255
IsPlain piece.Restart = Unit {0}
IsPlain (piece.Rounds n stepped) = n ≤ 1000000
IsPlain (piece.Ticks n) = n ≤ 1000000
IsPlain (piece.Typed line text) = (line ≤ 255) × (text.items ≢ []) × All (λ c. c < 128) text.items
IsPlain (piece.Take line) = line ≤ 255

-- the lines of such a piece are its commands, in order
abbrev pub ReadsBack : Type 0
ReadsBack = (p : Piece) → IsPlain p → map command_of (lines_of p) ≡ map Some (commands_of p)

-- a remark is no command; the line before a source takes the lines up to ENDASM as the program of this name; and the last lines show
-- how the jobs and the locks stand
abbrev pub OthersReadBack : Type 0
OthersReadBack =
    ((rest : List ℕ) → command_of (codes "; " ++ rest) ≡ Some command.Nothing)
    × ((program : ℕ) → program ≤ 255 → command_of (codes "ASSEMBLE " ++ program_name program) ≡ Some (command.Assemble (program_name program)))
    × (map command_of (codes "SHOW JOBS" ∷ codes "SHOW LOCKS" ∷ codes "SHOW WAITS" ∷ [])
    ≡ map Some (command.ShowJobs ∷ command.ShowLocks ∷ command.ShowWaits ∷ []))
