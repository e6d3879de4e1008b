-- Words put into the cells of a memory, and how an answer of the assembler stands for the outcome of a source.
use Rattle.std.specs.Prelude.{◌≡◌, ℕ, ◌+◌, ◌-◌, ◌^◌, Bool, true, List, [], ◌∷◌}
use Rattle.std.specs.Prelude.{◌++◌, length, set, Option, Some, None, option_map}
use Rattle.std.specs.Prelude.{Result, Ok, Err, unwrap_or, is_some, ◌&&◌, false, replicate, if◌then◌else◌}
use Rattle.word36.specs.declared.image.Image.{Image}
use Rattle.mac_layout.specs.declared.error.AsmError.{AsmError}
use Rattle.mac_layout.specs.declared.error.AsmError.TheVariants as errors
use Rattle.mac_text.specs.declared.syntax.Statement.{Statement}
use Rattle.mac_layout.specs.Values.{Names}
use Rattle.mac_layout.specs.Addresses.{Placed, first_address}
use Rattle.mac_asm.specs.Assembly.{Assembled, start_by, start_at}
use Rattle.mac_layout.specs.Faults.{Fault}
use Rattle.mac_asm.specs.Outcome.{line_words, has_start, words_given}

-- a memory: the word of each address, if it has one
abbrev pub Cells : Type 0
Cells = List (Option ℕ)

-- a memory of so many cells with no word
unfoldable pub empty_cells : ℕ → Cells
empty_cells n = replicate n None

-- the cells of 2 ^ 18 addresses, where only the first have a word
unfoldable pub all_cells : Cells → Cells
all_cells first = first ++ empty_cells (2 ^ 18 - length first)

-- words put from an address on; words without a cell are dropped
abbrev pub put_from : Cells → ℕ → List ℕ → Cells
put_from cells address [] = cells
put_from cells address (word ∷ words) = put_from (set cells address (Some word)) (address + 1) words

-- words put at their addresses
abbrev pub put_all : Cells → List (ℕ × ℕ) → Cells
put_all cells [] = cells
put_all cells (word ∷ words) = put_all (set cells word.0 (Some word.1)) words

-- the words of the cells from one on, with their addresses
abbrev pub words_in_cells : ℕ → Cells → List (ℕ × ℕ)
words_in_cells address [] = []
words_in_cells address (None ∷ cells) = words_in_cells (address + 1) cells
words_in_cells address (Some word ∷ cells) = (address, word) ∷ words_in_cells (address + 1) cells

-- the words were put at their addresses, if there are any
abbrev pub Puts : Bool → Cells → Cells → Option (List (ℕ × ℕ)) → Type 0
Puts true old new words = option_map (put_all old) words ≡ Some new
Puts false old new words = words ≡ None

-- the start that END names, or the first address where the statement is another; nothing where it does not fit
abbrev pub start_named : Names → Option Statement → Option ℕ
start_named names statement = if has_start names statement then Some (unwrap_or (start_by names statement) first_address) else None

-- the words of a line were put at their addresses, and this is its start; None if a value is not known or does not fit
abbrev pub PutsLine : Option ℕ → Cells → Cells → Placed → Type 0
PutsLine (Some start) old new at =
    (option_map (put_all old) (line_words at) ≡ Some new) × (start_named at.names at.line.statement ≡ Some start)
PutsLine None old new at = (is_some (line_words at) && has_start at.names at.line.statement) ≡ false

-- the memory with these words, and a start, or the line at fault
abbrev pub filled_with : Cells → ℕ → Result (List (ℕ × ℕ)) Fault → Result (Cells × ℕ) Fault
filled_with cells start (Ok words) = Ok (put_all cells words, start)
filled_with cells start (Err fault) = Err fault

-- the memory with the words of all lines, and their start, or the first line at fault
abbrev pub filled : Cells → List Placed → Result (Cells × ℕ) Fault
filled cells lines = filled_with cells (unwrap_or (start_at lines) first_address) (words_given 1 lines)

-- the answer for some lines; that memory ran out stands for nothing
abbrev pub PutsLines : Result ℕ AsmError → Cells → Cells → List Placed → Type 0
PutsLines (Ok start) old new lines = filled old lines ≡ Ok (new, start)
PutsLines (Err (errors.Line line code)) old new lines = filled old lines ≡ Err (record { line = line; code = code })
PutsLines (Err errors.Memory) old new lines = Unit {0}

-- the answer is the image, or the line at fault with its code; or memory ran out
abbrev pub Assembles : Result Image AsmError → Result Assembled Fault → Type 0
Assembles (Ok image) outcome = outcome ≡ Ok (record { words = image.words.items; start = image.start })
Assembles (Err (errors.Line line code)) outcome = outcome ≡ Err (record { line = line; code = code })
Assembles (Err errors.Memory) outcome = Unit {0}
