-- A run as lines of a script of `lockmon run` (this project's profile).
use Rattle.std.specs.Prelude.{ℕ, ◌==◌, Bool, List, [], ◌∷◌, ◌++◌, codes, decimal, nat_eq, take, if◌then◌else◌}
use Rattle.std.specs.List.{ends_with, flat_map}
use Rattle.script_io.specs.Printing.{printed}
use Rattle.run_record.specs.declared.pieces.Piece.{Piece}
use Rattle.run_record.specs.declared.pieces.Piece.TheVariants as piece

-- a line with its end
abbrev pub ended : List ℕ → List ℕ
ended line = line ++ codes "\n"

-- a command with a number
abbrev pub counted : List ℕ → ℕ → List ℕ
counted name n = name ++ decimal n

-- the name of the image of the program of this number
abbrev pub program_name : ℕ → List ℕ
program_name program = codes "P" ++ decimal program

-- RUN, where there are rounds
abbrev pub run_lines : ℕ → List (List ℕ)
run_lines n = if n == 0 then [] else counted (codes "RUN ") n ∷ []

-- STEP, where there is one step more
abbrev pub step_lines : Bool → List (List ℕ)
step_lines stepped = if stepped then codes "STEP 1" ∷ [] else []

-- the lines of a piece, without their ends
abbrev pub lines_of : Piece → List (List ℕ)
lines_of (piece.Login line program) = (counted (codes "LOGIN ") line ++ codes " " ++ program_name program) ∷ []
lines_of (piece.Start job) = counted (codes "START ") job ∷ []
lines_of (piece.Continue job) = counted (codes "CONTINUE ") job ∷ []
lines_of (piece.Kill job) = counted (codes "KILL ") job ∷ []
lines_of piece.Restart = codes "RESTART" ∷ []
lines_of (piece.Rounds n stepped) = run_lines n ++ step_lines stepped
lines_of (piece.Ticks n) = counted (codes "TICK ") n ∷ []
lines_of (piece.Typed line text) = (counted (codes "TYPE ") line ++ codes " " ++ printed text.items) ∷ []
lines_of (piece.Take line) = counted (codes "TAKE ") line ∷ []

-- the text of a piece, and of pieces
abbrev pub text_of : Piece → List ℕ
text_of p = flat_map ended (lines_of p)

abbrev pub text_in : List Piece → List ℕ
text_in pieces = flat_map text_of pieces

-- ---- before the pieces, and after them

-- a remark with the command that obeys the script, for a machine of so many blocks and a quantum of so many ticks
abbrev pub head_text : ℕ → ℕ → List ℕ
head_text blocks quantum = ended (counted (codes "; lockmon run --blocks ") blocks ++ counted (codes " --quantum ") quantum)

-- the end of a text's last line, where it has none
abbrev pub last_end : List ℕ → List ℕ
last_end text = if ends_with nat_eq text (codes "\n") then [] else codes "\n"

-- a remark with the name of a file, at most 200 bytes of it
abbrev pub remark : List ℕ → List ℕ
remark name = ended (codes "; " ++ take 200 name)

-- a source as the program of a number: a remark with the name of its file, and the source between ASSEMBLE and ENDASM
abbrev pub program_text : ℕ → List ℕ → List ℕ → List ℕ
program_text program file text =
    remark file ++ (ended (counted (codes "ASSEMBLE P") program) ++ (text ++ (last_end text ++ codes "ENDASM\n")))

-- what shows how the jobs and the locks stand
abbrev pub end_text : List ℕ
end_text = codes "SHOW JOBS\nSHOW LOCKS\nSHOW WAITS\n"
