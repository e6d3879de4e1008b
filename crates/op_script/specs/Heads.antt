-- The head of a script: on which machine it is to be obeyed (this project's profile).
use Rattle.std.specs.Prelude.{ℕ, ◌==◌, ◌&&◌, ◌||◌, not, Bool, List, [], ◌∷◌, ◌++◌, Option, Some, None, option_and_then, if◌then◌else◌}
use Rattle.std.specs.Prelude.{codes, decimal, bytes_eq}
use Rattle.word36.specs.declared.sizes.TheConstants.{MOST_BLOCKS}
use Rattle.machine.specs.Setups.{Setup}
use Rattle.machine.specs.declared.sizes.TheConstants.{MOST_QUANTUM}
use Rattle.script_io.specs.Numbers.{number, parts}

-- the machine with these numbers, if there is one
abbrev pub setup_of : ℕ → ℕ → Option Setup
setup_of blocks quantum = if (blocks == 0) || (quantum == 0) then None else Some (record { blocks = blocks; quantum = quantum })

-- the machine by names of options, each followed by its value
abbrev pub head_from : ℕ → ℕ → List (List ℕ) → Option Setup
head_from blocks quantum [] = setup_of blocks quantum
head_from blocks quantum (name ∷ []) = None
head_from blocks quantum (name ∷ value ∷ more) =
    if bytes_eq name (codes "--blocks") then option_and_then (λ n. head_from n quantum more) (number 10 MOST_BLOCKS value) else
    if bytes_eq name (codes "--quantum") then option_and_then (λ n. head_from blocks n more) (number 10 MOST_QUANTUM value) else
    None

-- after `; lockmon run`, without options 64 blocks and a quantum of one tick
abbrev pub head_of_items : List (List ℕ) → Option Setup
head_of_items (a ∷ b ∷ c ∷ items) =
    if bytes_eq a (codes ";") && (bytes_eq b (codes "lockmon") && bytes_eq c (codes "run")) then head_from 64 1 items else None
head_of_items _ = None

-- the machine that a line names
abbrev pub head_of : List ℕ → Option Setup
head_of line = head_of_items (parts 32 line)

-- ---- a script that is obeyed on another machine than its head says

abbrev pub is_other : Setup → Setup → Bool
is_other said taken = not (said.blocks == taken.blocks && said.quantum == taken.quantum)

abbrev pub other_text : Setup → Setup → List ℕ
other_text said taken =
    codes "the script was made for --blocks " ++ (decimal said.blocks ++ (codes " --quantum " ++ (decimal said.quantum
    ++ (codes ", and is obeyed with --blocks " ++ (decimal taken.blocks ++ (codes " --quantum " ++ decimal taken.quantum))))))
