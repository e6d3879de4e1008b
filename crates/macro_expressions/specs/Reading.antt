-- What is left to read of a source, and what is read there (MACRO-10 Assembler Manual). A text is the list of its ASCII codes.
use Rattle.std.specs.Prelude.{◌≡◌, Result, Ok, Err, ℕ, List, [], ◌∷◌, drop, Bool, true, false, ◌==◌, ◌||◌, ◌&&◌, not, Option, Some, None, if◌then◌else◌}
use Rattle.std.specs.List.{take_while}
use Rattle.mac_text.specs.Characters.{is_digit, is_name_character}
use Rattle.mac_text.specs.Scan.{after_blanks, begins_with, begins_with_commas}
use Rattle.macro_expressions.specs.declared.fault.Stop.{Stop}
use Rattle.macro_expressions.specs.declared.fault.Fault.{Fault}
use Rattle.macro_expressions.specs.declared.fault.Fault.TheVariants as faults

-- what is left to read, the radix of numbers there, and the words of the literals that have no place so far
pub record Front : Type 0 where
  pub rest : List ℕ
  pub radix : ℕ
  pub pool : List ℕ

-- what is read at the front, and the front behind it; or why nothing is: it is wrong, or beyond these definitions
abbrev pub Reader : Type 0 → Type 0
Reader X = Front → Result (X × Front) Stop

-- what a function gives, seen by view, is what is read; where memory ran out, nothing is said
abbrev pub Fails : {Y : Type 0} → Fault → Result Y Stop → Type 0
Fails faults.Memory read = Unit {0}
Fails (faults.Stopped stop) read = read ≡ Err stop

abbrev pub Gives : {X Y : Type 0} → (X → Y) → Result X Fault → Result Y Stop → Type 0
Gives view (Ok x) read = read ≡ Ok (view x)
Gives view (Err e) read = Fails e read

infixl 10 ◌>>=◌
abbrev pub ◌>>=◌ : {A B : Type 0} → Result A Stop → (A → Result B Stop) → Result B Stop
Ok a >>= f = f a
Err stop >>= f = Err stop

-- what has to be there
abbrev pub or_stop : {X : Type 0} → Stop → Option X → Result X Stop
or_stop stop (Some x) = Ok x
or_stop stop None = Err stop

-- less the first n characters
abbrev pub without : ℕ → Front → Front
without n s = record s { rest = drop n s.rest }

abbrev pub skipped : Front → Front
skipped s = record s { rest = after_blanks s.rest }

-- the character comes next, behind blanks
abbrev pub meets : ℕ → Front → Bool
meets c s = begins_with c (after_blanks s.rest)

-- behind the blanks, and behind the character where it comes next
abbrev pub eaten : ℕ → Front → Front
eaten c s = record s { rest = if meets c s then drop 1 (after_blanks s.rest) else after_blanks s.rest }

-- two commas come next, behind blanks
abbrev pub meets_commas : Front → Bool
meets_commas s = begins_with_commas (after_blanks s.rest)

-- a name begins with no digit, and is not the point alone
abbrev pub begins_name : List ℕ → Bool
begins_name [] = false
begins_name (c ∷ []) = is_name_character c && not (is_digit c || c == 46)
begins_name (c ∷ d ∷ cs) = is_name_character c && not (is_digit c || (c == 46 && not (is_name_character d)))

abbrev pub begins_name_character : List ℕ → Bool
begins_name_character [] = false
begins_name_character (c ∷ cs) = is_name_character c

-- the digits that come next
abbrev pub digits_of : List ℕ → List ℕ
digits_of text = take_while is_digit text

-- the end of a line, or a comment
abbrev pub ends_line : List ℕ → Bool
ends_line [] = true
ends_line (c ∷ cs) = c == 10 || (c == 13 || c == 59)

-- the text up to the end of its line
abbrev pub line_behind : List ℕ → List ℕ
line_behind [] = []
line_behind (c ∷ cs) = elim (c == 10) [ true ↦ c ∷ cs | false ↦ line_behind cs ]

-- behind blanks, ends of lines and comments
abbrev pub between : Bool → List ℕ → List ℕ
between in_comment [] = []
between true (c ∷ cs) = between (not (c == 10)) cs
between false (c ∷ cs) =
    elim (c == 32 || (c == 9 || (c == 12 || (c == 10 || c == 13)))) [
      | true ↦ between false cs
      | false ↦ elim (c == 59) [ true ↦ between true cs | false ↦ c ∷ cs ]
    ]

abbrev pub across_lines : Front → Front
across_lines s = record s { rest = between false s.rest }

-- the rest of the line says nothing
abbrev pub without_line : Front → Front
without_line s = record s { rest = line_behind s.rest }
