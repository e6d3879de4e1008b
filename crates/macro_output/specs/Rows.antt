-- The rows of a listing as text. A text is the list of its ASCII codes.
use Rattle.std.specs.Prelude.{ℕ, Bool, ◌||◌, List, [], ◌∷◌, ◌++◌, Option, Some, None, codes, decimal, replicate, nat_eq, nat_lt}
use Rattle.std.specs.Prelude.{if◌then◌else◌}
use Rattle.std.specs.List.{flat_map}
use Rattle.word36.specs.Octal.{octal, word_text}
use Rattle.macro_state.specs.declared.listing.Row.{Row}

-- a blank where a number has no digit of this worth
abbrev pub blank_before : ℕ → ℕ → List ℕ
blank_before number worth = if nat_lt number worth then codes " " else []

-- a number in decimal, in five columns or more
abbrev pub number_text : ℕ → List ℕ
number_text number = flat_map (blank_before number) (10000 ∷ 1000 ∷ 100 ∷ 10 ∷ []) ++ decimal number

abbrev pub number_column : Option ℕ → List ℕ
number_column (Some number) = number_text number
number_column None = codes "     "

-- six octal digits, or so many blanks
abbrev pub place_column : Option ℕ → List ℕ
place_column (Some place) = octal 6 place
place_column None = codes "      "

-- a word in octal, or so many blanks
abbrev pub word_column : Option ℕ → List ℕ
word_column (Some word) = word_text word
word_column None = codes "              "

-- a place and a word
abbrev pub row_text : Option ℕ → Option ℕ → List ℕ
row_text place word = place_column place ++ codes " " ++ word_column word

abbrev pub row_columns : Option Row → List ℕ
row_columns (Some row) = row_text row.place row.word
row_columns None = row_text None None

-- the columns before the text of a line, with a mark behind its number
abbrev pub columns : Option ℕ → ℕ → Option Row → List ℕ
columns number mark row = number_column number ++ (mark ∷ []) ++ row_columns row ++ codes "  "

-- a blank, a tab or a carriage return
abbrev pub is_end_blank : ℕ → Bool
is_end_blank c = nat_eq c 32 || (nat_eq c 9 || nat_eq c 13)

-- a character before the rest of a line; a blank before nothing goes
abbrev pub before_rest : ℕ → List ℕ → List ℕ
before_rest c [] = if is_end_blank c then [] else c ∷ []
before_rest c (next ∷ rest) = c ∷ next ∷ rest

-- a line without the blanks at its end
abbrev pub without_end : List ℕ → List ℕ
without_end [] = []
without_end (c ∷ line) = before_rest c (without_end line)

-- a line of the listing: its columns, a `+` for each text that it is in, and its text
abbrev pub line_text : Option ℕ → ℕ → Option Row → ℕ → List ℕ → List ℕ
line_text number mark row depth text = without_end (columns number mark row ++ replicate depth 43 ++ text) ++ codes "\n"

-- a row alone on a line
abbrev pub own_line : Row → List ℕ
own_line row = line_text None 32 (Some row) 0 []

-- a line with its rows: the first with its number, the mark behind that, and its text, those behind it each alone
abbrev pub rows_text : Option ℕ → ℕ → List Row → ℕ → List ℕ → List ℕ
rows_text number mark [] depth text = line_text number mark None depth text
rows_text number mark (row ∷ rows) depth text = line_text number mark (Some row) depth text ++ flat_map own_line rows
