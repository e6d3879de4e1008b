-- Where a line of the input is typed (this project's profile).
use Rattle.std.specs.Prelude.{◌==◌, ◌-◌, ◌+◌, ℕ, Bool, List, Option, None, Some, if◌then◌else◌, nat_lt, position, take, drop}
use Rattle.script_io.specs.Numbers.{number}

abbrev pub is_colon : ℕ → Bool
is_colon c = c == 58

-- the number of one of so many lines, where there are several, which a text spells
abbrev pub line_number : ℕ → List ℕ → Option ℕ
line_number lines text = if nat_lt lines 2 then None else number 10 (lines - 1) text

-- the number before the colon at a position, if one stands there
abbrev pub number_before : ℕ → List ℕ → Option ℕ → Option ℕ
number_before lines text None = None
number_before lines text (Some i) = line_number lines (take i text)

-- the number before the first colon of a text
abbrev pub number_in : ℕ → List ℕ → Option ℕ
number_in lines text = number_before lines text (position is_colon text)

-- the line where a text is typed: the one whose number stands before it, or else line 0
abbrev pub line_or_first : Option ℕ → ℕ
line_or_first None = 0
line_or_first (Some n) = n

abbrev pub line_for : ℕ → List ℕ → ℕ
line_for lines text = line_or_first (number_in lines text)

-- what stands behind the colon at a position
abbrev pub behind : List ℕ → Option ℕ → List ℕ
behind text None = text
behind text (Some i) = drop (i + 1) text

-- what is typed: what stands behind the number and its colon, or else all
abbrev pub rest_or_all : Option ℕ → List ℕ → List ℕ → List ℕ
rest_or_all None text rest = text
rest_or_all (Some n) text rest = rest

abbrev pub text_for : ℕ → List ℕ → List ℕ
text_for lines text = rest_or_all (number_in lines text) text (behind text (position is_colon text))
