-- What jobs type out, as it is written (this project's profile).
use Rattle.std.specs.Prelude.{ℕ, ◌==◌, ◌&&◌, ◌||◌, nat_le, nat_lt, Bool, List, [], ◌∷◌, ◌++◌, codes, decimal, length, if◌then◌else◌}
use Rattle.ten.specs.declared.terminal.TheConstants.{WIDTH}

-- with several terminals a line is written after the number of its terminal, with an end; with one, characters are written as
-- they are
abbrev pub line_text : Bool → ℕ → List ℕ → List ℕ
line_text numbered line held = if numbered then decimal line ++ (codes ": " ++ (held ++ codes "\n")) else held

-- the end of a line, with several terminals: it is not held
abbrev pub is_line_end : Bool → ℕ → Bool
is_line_end numbered c = numbered && c == 10

-- what is held with a character after it, as many as WIDTH at most
abbrev pub with_character : Bool → List ℕ → ℕ → List ℕ
with_character numbered held c = if is_line_end numbered c then held else if nat_lt (length held) WIDTH then held ++ c ∷ [] else held

-- whether what is held is written as a character comes: a line is whole, or WIDTH characters are held
abbrev pub is_due : Bool → List ℕ → ℕ → Bool
is_due numbered held c = is_line_end numbered c || nat_le WIDTH (length (with_character numbered held c))

abbrev pub held_behind : Bool → List ℕ → ℕ → List ℕ
held_behind numbered held c = if is_due numbered held c then [] else with_character numbered held c

abbrev pub written_at : Bool → ℕ → List ℕ → ℕ → List ℕ
written_at numbered line held c = if is_due numbered held c then line_text numbered line (with_character numbered held c) else []

-- what is written as characters come, and what is held after them
abbrev pub written_by : Bool → ℕ → List ℕ → List ℕ → List ℕ
written_by numbered line held [] = []
written_by numbered line held (c ∷ cs) = written_at numbered line held c ++ written_by numbered line (held_behind numbered held c) cs

abbrev pub held_by : Bool → List ℕ → List ℕ → List ℕ
held_by numbered held [] = held
held_by numbered held (c ∷ cs) = held_by numbered (held_behind numbered held c) cs

-- what is written of what is held, when a terminal is emptied
abbrev pub flushed : Bool → ℕ → List ℕ → List ℕ
flushed numbered line held = if nat_lt 0 (length held) then line_text numbered line held else []
