-- What a session shows (this project's profile).
use Rattle.std.specs.Prelude.{◌≡◌, ◌==◌, ◌||◌, ◌-◌, ℕ, ◌++◌, Bool, true, false, IsTrue, List, [], ◌∷◌, length, slice_index_or, codes, decimal, Option, Some, None, if◌then◌else◌}
use Rattle.std.specs.Fmt.{digits}
use Rattle.word36.specs.Octal.{word_text}
use Rattle.ddt_commands.specs.declared.commands.OutputMode.{OutputMode}
use Rattle.ddt_show.specs.Words.{address_words, shown_word}
use Rattle.ddt_show.specs.declared.addresses.ShownJob.{ShownJob}
use Rattle.machine.specs.declared.view.JobView.{JobView}
use Rattle.program_shell.specs.declared.pending_text.PendingText.{PendingText}
use Rattle.run_notes.specs.Instructions.{reference_words}
use Rattle.ddt.specs.Obeying.{shown_in}
use Rattle.ddt.specs.declared.session.Session.{Session}

-- if there was memory for all of the new text, there was for the old one, and some bytes, which are as it is said, came after it
abbrev pub AddsSome : PendingText → PendingText → (List ℕ → Type 0) → Type 0
AddsSome old new Is =
    IsTrue new.is_whole → IsTrue old.is_whole × ((text : List ℕ) × (new.bytes.items ≡ old.bytes.items ++ text) × Is text)

-- lines, or a text in place of none
abbrev pub lines_or : List ℕ → List ℕ → List ℕ
lines_or [] none = none
lines_or (c ∷ cs) none = c ∷ cs

-- an address of a job
abbrev pub address_by : ℕ → Option ShownJob → List ℕ
address_by address (Some job) = reference_words job.places address
address_by address None = digits 8 false address

-- the line on an address and its word, if it is known
abbrev pub line_by : OutputMode → ℕ → ℕ → Option ShownJob → Option (List ℕ)
line_by mode address word (Some job) = address_words job.places address (shown_word job.places mode word)
line_by mode address word None = Some []

abbrev pub line_in : Session → ℕ → ℕ → Option (List ℕ)
line_in s address word = line_by s.mode address word (shown_in s s.open)

-- the text of a quantity, if it is known
abbrev pub quantity_by : OutputMode → ℕ → Option ShownJob → Option (List ℕ)
quantity_by mode word (Some job) = shown_word job.places mode word
quantity_by mode word None = None

abbrev pub quantity_in : Session → OutputMode → ℕ → Option (List ℕ)
quantity_in s mode word = quantity_by mode word (shown_in s s.open)

-- the address that a session is at, of a job that goes on at its PC
abbrev pub next_here : ℕ → Option JobView → ℕ
next_here here (Some view) = view.pc
next_here here None = here

-- the mask of searches
abbrev pub mask_words : ℕ → List ℕ
mask_words mask = codes "$M/ " ++ (word_text mask ++ codes "\n")

-- what was done by hand
abbrev pub edits_words : Bool → Bool → List ℕ
edits_words true false = codes "edited: words were deposited"
edits_words false true = codes "edited: instructions were executed"
edits_words true true = codes "edited: words were deposited, instructions were executed"
edits_words false false = []

-- with texts before and after it
abbrev pub edits_text : Bool → Bool → List ℕ → List ℕ → List ℕ
edits_text edited executed before after = if edited || executed then before ++ (edits_words edited executed ++ after) else []

-- an end of line after a text that has none
abbrev pub end_after : List ℕ → List ℕ
end_after bytes = if slice_index_or bytes (length bytes - 1) 0 == 10 then [] else 10 ∷ []

-- what was taken from a terminal line, which is named if there are several; nothing if nothing was
abbrev pub taken_words : ℕ → Bool → List ℕ → List ℕ
taken_words line is_named [] = []
taken_words line is_named (c ∷ cs) =
    (if is_named then codes "line " ++ (decimal line ++ codes ":\n") else []) ++ ((c ∷ cs) ++ end_after (c ∷ cs))
