-- The commands of a script on the machine (this project's profile).
use Rattle.std.specs.Prelude.{◌==◌, ◌-◌, ◌^◌, ℕ, Bool, List, [], ◌∷◌, drop, nat_eq, Option, Some, None}
use Rattle.std.specs.Prelude.{if◌then◌else◌, codes, bytes_eq, option_and_then, option_map}
use Rattle.std.specs.List.{before_first, after_first, starts_with}
use Rattle.word36.specs.declared.sizes.TheConstants.{DATA_WORDS}
use Rattle.script_io.specs.Numbers.{number, parts}
use Rattle.script_io.specs.Lines.{is_silent}
use Rattle.run_commands.specs.Names.{name_of}
use Rattle.run_commands.specs.Texts.{characters_of}
use Rattle.run_commands.specs.declared.commands.Command.{Command}
use Rattle.run_commands.specs.declared.commands.Command.TheVariants as command
use Rattle.run_commands.specs.declared.commands.Keyword.{Keyword}
use Rattle.run_commands.specs.declared.commands.Keyword.TheVariants as keyword

-- ---- numbers

-- the number of a line or a job, 0 to 255: which of them are there is the machine's to say
abbrev pub byte_of : List ℕ → Option ℕ
byte_of text = number 10 255 text

-- how many steps or ticks, to 1,000,000
abbrev pub count_of : List ℕ → Option ℕ
count_of text = number 10 1000000 text

-- an address of 18 bits, in octal
abbrev pub address_of : List ℕ → Option ℕ
address_of text = number 8 (2 ^ 18 - 1) text

-- the number of a word that all jobs share
abbrev pub data_number_of : List ℕ → Option ℕ
data_number_of text = number 10 (DATA_WORDS - 1) text

-- ---- what follows a command's name

-- one item
abbrev pub only : List (List ℕ) → Option (List ℕ)
only (item ∷ []) = Some item
only _ = None

-- what one item spells
abbrev pub in_one : {A : Type 0} → (List ℕ → Option A) → List (List ℕ) → Option A
in_one read rest = option_and_then read (only rest)

-- nothing
abbrev pub alone : Command → List (List ℕ) → Option Command
alone c [] = Some c
alone c (item ∷ more) = None

-- LOGIN: `line name`
abbrev pub login_of : List (List ℕ) → Option Command
login_of (line ∷ name ∷ []) = option_and_then (λ l. option_map (λ n. command.Login l n) (name_of name)) (byte_of line)
login_of _ = None

-- SHOW: `JOBS`, `LOCKS` or `WAITS`
abbrev pub shown_by : List ℕ → Option Command
shown_by what =
    if bytes_eq what (codes "JOBS") then Some command.ShowJobs
    else (if bytes_eq what (codes "LOCKS") then Some command.ShowLocks
    else (if bytes_eq what (codes "WAITS") then Some command.ShowWaits
    else None))

-- EXAMINE: `j a`
abbrev pub examine_of : List (List ℕ) → Option Command
examine_of (job ∷ address ∷ []) = option_and_then (λ j. option_map (λ a. command.Examine j a) (address_of address)) (byte_of job)
examine_of _ = None

abbrev pub is_space : ℕ → Bool
is_space c = c == 32

-- the characters that a text of at least one character spells
abbrev pub text_of : List ℕ → Option (List ℕ)
text_of [] = None
text_of (c ∷ more) = characters_of (c ∷ more)

-- TYPE: `line text`, the text being all behind one space
abbrev pub typed_of : List ℕ → Option Command
typed_of rest =
    option_and_then (λ line. option_map (λ text. command.Typed line text) (text_of (after_first is_space rest)))
    (byte_of (before_first is_space rest))

-- ---- lines

-- the names of the commands that are no events
abbrev pub other_keyword_of : List ℕ → Option Keyword
other_keyword_of name =
    if bytes_eq name (codes "ASSEMBLE") then Some keyword.Assemble
    else (if bytes_eq name (codes "SHOW") then Some keyword.Show
    else (if bytes_eq name (codes "EXAMINE") then Some keyword.Examine
    else (if bytes_eq name (codes "DATA") then Some keyword.Data
    else (if bytes_eq name (codes "QUIT") then Some keyword.Quit
    else None))))

-- the names of the commands but TYPE
abbrev pub keyword_of : List ℕ → Option Keyword
keyword_of name =
    if bytes_eq name (codes "LOGIN") then Some keyword.Login
    else (if bytes_eq name (codes "STEP") then Some keyword.Step
    else (if bytes_eq name (codes "RUN") then Some keyword.Run
    else (if bytes_eq name (codes "TICK") then Some keyword.Tick
    else (if bytes_eq name (codes "TAKE") then Some keyword.Take
    else (if bytes_eq name (codes "START") then Some keyword.Start
    else (if bytes_eq name (codes "CONTINUE") then Some keyword.Continue
    else (if bytes_eq name (codes "KILL") then Some keyword.Kill
    else (if bytes_eq name (codes "RESTART") then Some keyword.Restart
    else other_keyword_of name))))))))

-- the command of a name and what follows it
abbrev pub command_with : Keyword → List (List ℕ) → Option Command
command_with keyword.Assemble rest = option_map command.Assemble (in_one name_of rest)
command_with keyword.Login rest = login_of rest
command_with keyword.Step rest = option_map command.Step (in_one count_of rest)
command_with keyword.Run rest = option_map command.Run (in_one count_of rest)
command_with keyword.Tick rest = option_map command.Tick (in_one count_of rest)
command_with keyword.Take rest = option_map command.Take (in_one byte_of rest)
command_with keyword.Start rest = option_map command.Start (in_one byte_of rest)
command_with keyword.Continue rest = option_map command.Continue (in_one byte_of rest)
command_with keyword.Kill rest = option_map command.Kill (in_one byte_of rest)
command_with keyword.Restart rest = alone command.Restart rest
command_with keyword.Show rest = in_one shown_by rest
command_with keyword.Examine rest = examine_of rest
command_with keyword.Data rest = option_map command.Data (in_one data_number_of rest)
command_with keyword.Quit rest = alone command.Quit rest

abbrev pub command_of_items : List (List ℕ) → Option Command
command_of_items [] = None
command_of_items (name ∷ rest) = option_and_then (λ k. command_with k rest) (keyword_of name)

-- the command of a line that is in the grammar: a text behind `TYPE `, or items between single spaces
unfoldable pub command_of : List ℕ → Option Command
command_of line =
    if is_silent line then Some command.Nothing
    else (if starts_with nat_eq line (codes "TYPE ") then typed_of (drop 5 line)
    else command_of_items (parts 32 line))
