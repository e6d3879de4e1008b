-- What a typed line says (this project's profile; the manual's chapter on `ddt` has the table).
use Rattle.std.specs.Prelude.{◌≡◌, ℕ, ◌+◌, ◌-◌, ◌==◌, ◌&&◌, ◌||◌, Bool, true, false, nat_le, nat_lt, not, List, [], length, take, drop, codes}
use Rattle.std.specs.Prelude.{if◌then◌else◌, slice_index, is_err, is_none, is_some, Option, Some, None, Result, Ok, Err}
use Rattle.std.specs.Borrow.{Bor}
use Rattle.std.specs.Char.{is_ascii_alphabetic, is_ascii_digit}
use Rattle.std.specs.List.{after_first, before_first}
use Rattle.word36.specs.Words.{left_half}
use Rattle.ddt_breakpoints.specs.declared.conditions.Comparison.{Comparison}
use Rattle.ddt_breakpoints.specs.declared.conditions.Comparison.TheVariants as comparison
use Rattle.ddt_breakpoints.specs.declared.conditions.Condition.{Condition}
use Rattle.ddt_commands.specs.Numbers.{as_times, capped, number_in, number_of}
use Rattle.ddt_commands.specs.Texts.{Cut, behind_blanks, cut_of, first_place, first_word, has, is_blank, is_byte, is_escape, is_name, trimmed}
use Rattle.ddt_commands.specs.Values.{◌>>=◌, address_of, begins, is_second, value_of}
use Rattle.ddt_commands.specs.declared.commands.Command.{Command}
use Rattle.ddt_commands.specs.declared.commands.Command.TheVariants as command
use Rattle.ddt_commands.specs.declared.commands.NewBreakpoint.{NewBreakpoint}
use Rattle.ddt_commands.specs.declared.commands.Opening.{Opening}
use Rattle.ddt_commands.specs.declared.commands.Opening.TheVariants as opening
use Rattle.ddt_commands.specs.declared.commands.OutputMode.{OutputMode}
use Rattle.ddt_commands.specs.declared.commands.OutputMode.TheVariants as mode
use Rattle.ddt_commands.specs.declared.commands.Retype.{Retype}
use Rattle.ddt_commands.specs.declared.commands.Retype.TheVariants as retype
use Rattle.ddt_commands.specs.declared.commands.Search.{Search}
use Rattle.ddt_commands.specs.declared.commands.SearchKind.{SearchKind}
use Rattle.ddt_commands.specs.declared.commands.SearchKind.TheVariants as search
use Rattle.ddt_commands.specs.declared.escaped.Escaped.{Escaped}
use Rattle.ddt_commands.specs.declared.line_errors.LineError.{LineError}
use Rattle.ddt_commands.specs.declared.line_errors.LineError.TheVariants as fault
use Rattle.ddt_commands.specs.declared.values.Scope.{Scope}

-- ---- commands after `$` or ESC, by what stands before it, the digits after it, and the letter after these in upper case

-- whether nothing stands before `$`, or one more `$`: modes last either way
abbrev pub is_of_mode : List ℕ → Bool
is_of_mode before = (length before == 0) || ((length before == 1) && is_escape (slice_index before 0))

-- the mode of a letter: S; C, O and F; D; T; H
abbrev pub mode_of : ℕ → Option OutputMode
mode_of letter =
    if letter == 83 then Some mode.Symbolic else
    if (letter == 67) || (letter == 79) || (letter == 70) then Some mode.Octal else
    if letter == 68 then Some (mode.Radix 10) else
    if letter == 84 then Some mode.Text else
    if letter == 72 then Some mode.Halves else None

-- `$nR`
abbrev pub radix_in : Option ℕ → Result Command LineError
radix_in (Some n) = if nat_le 2 n && nat_le n 16 then Ok (command.SetMode (mode.Radix n)) else Err fault.NoRadix
radix_in None = Err fault.NoRadix

-- `$6T` and `$7T`
abbrev pub text_mode_in : Option ℕ → Result Command LineError
text_mode_in (Some n) =
    if n == 6 then Ok (command.SetMode mode.Sixbit) else
    if n == 7 then Ok (command.SetMode mode.Ascii) else Err fault.NoTextMode
text_mode_in None = Err fault.NoTextMode

-- `n$P` and `n$X`, once if n is left out
abbrev pub times_in : (ℕ → Command) → Option ℕ → Result Command LineError
times_in command (Some n) = Ok (command n)
times_in command None = Err fault.NoTimes

-- whether `$` alone stands before `$`
abbrev pub is_doubled : List ℕ → Bool
is_doubled before = (length before == 1) && is_escape (slice_index before 0)

-- `$P`, `$$P` and `n$P`
abbrev pub proceed_in : List ℕ → Result Command LineError
proceed_in before =
    if length before == 0 then Ok (command.Proceed 1) else
    if is_doubled before then Ok command.ProceedOn else times_in command.Proceed (as_times (number_in before))

-- whether a text is a number of times and no instruction: it begins with a digit, and has no comma
abbrev pub is_number : List ℕ → Bool
is_number text = nat_lt 0 (length text) && (is_ascii_digit (slice_index text 0) && not (has (is_byte 44) text))

-- `$X`, `$$X` and `n$X`
abbrev pub execute_in : List ℕ → Result Command LineError
execute_in before =
    if length before == 0 then Ok (command.Execute 1) else
    if is_doubled before then Ok command.ExecuteCall else times_in command.Execute (as_times (number_in before))

-- the letters of searches: N, E and W
abbrev pub kind_of : ℕ → SearchKind
kind_of letter = if letter == 87 then search.Equal else if letter == 78 then search.NotEqual else search.Address

abbrev pub is_search : ℕ → Bool
is_search letter = (letter == 87) || (letter == 78) || (letter == 69)

-- ---- the parts of a line

-- those that a function gives
abbrev pub cut_in : Escaped → Cut
cut_in e = record {
  before = e.before.now;
  digits = e.digits.now;
  letter = e.letter;
}

abbrev pub parts_of : Option Escaped → Option Cut
parts_of (Some e) = Some (cut_in e)
parts_of None = None

-- ---- breakpoints

-- the number of a breakpoint
abbrev pub as_breakpoint : Option ℕ → Option ℕ
as_breakpoint (Some n) = if nat_le 1 n && nat_le n 8 then Some n else None
as_breakpoint None = None

abbrev pub breakpoint_in : List ℕ → Option ℕ
breakpoint_in digits = as_breakpoint (capped (number_of 10 digits))

-- how two words are compared, and the text after that
abbrev pub comparison_in : List ℕ → Option (Comparison × List ℕ)
comparison_in text =
    if begins 60 text && is_second 62 text then Some (comparison.NotEqual, drop 2 text) else
    if begins 60 text && is_second 61 text then Some (comparison.LessOrEqual, drop 2 text) else
    if begins 62 text && is_second 61 text then Some (comparison.GreaterOrEqual, drop 2 text) else
    if begins 60 text then Some (comparison.Less, drop 1 text) else
    if begins 62 text then Some (comparison.Greater, drop 1 text) else
    if begins 61 text then Some (comparison.Equal, drop 1 text) else None

abbrev pub compared_parts : Option (Comparison × Bor (List ℕ)) → Option (Comparison × List ℕ)
compared_parts (Some parts) = Some (parts.0, parts.1.now)
compared_parts None = None

-- a condition, cut at its comparison
abbrev pub compared : Scope → List ℕ → Option (Comparison × List ℕ) → Result Condition LineError
compared scope place (Some between) =
    address_of scope place >>= λ address. value_of scope between.1 >>= λ value.
    Ok (record {
      address = address;
      comparison = between.0;
      value = value;
    })
compared scope place None = Err fault.NoCondition

abbrev pub condition_at : Scope → List ℕ → Option ℕ → Result Condition LineError
condition_at scope text (Some i) = compared scope (take i text) (comparison_in (drop i text))
condition_at scope text None = Err fault.NoCondition

-- the place of the first comparison
abbrev pub comparison_place : List ℕ → Option ℕ
comparison_place text = first_place (λ i. is_some (comparison_in (drop i text))) 0 (length text)

abbrev pub condition_in : Scope → List ℕ → Result Condition LineError
condition_in scope text = condition_at scope text (comparison_place text)

-- the text before TIMES: `IF a=v`, or nothing
abbrev pub if_in : Scope → List ℕ → Result (Option Condition) LineError
if_in scope text =
    if length (first_word text) == 0 then Ok None else
    if is_name (codes "IF") (first_word text)
    then (condition_in scope (behind_blanks text) >>= λ condition. Ok (Some condition))
    else Err fault.NoLimit

abbrev pub or_fault : LineError → Option ℕ → Result ℕ LineError
or_fault unless (Some n) = Ok n
or_fault unless None = Err unless

-- the text from TIMES on: `TIMES n`, or nothing
abbrev pub visits_in : List ℕ → Result ℕ LineError
visits_in text =
    if length (first_word text) == 0 then Ok 1 else or_fault fault.NoVisits (as_times (number_in (behind_blanks text)))

-- a word begins there that is one of two
abbrev pub ends_a_word : List ℕ → Bool
ends_a_word text = (length text == 0) || is_blank (slice_index text (length text - 1))

abbrev pub is_word_at : List ℕ → List ℕ → List ℕ → ℕ → Bool
is_word_at word other text i =
    (is_name word (first_word (drop i text)) || is_name other (first_word (drop i text))) && ends_a_word (take i text)

abbrev pub word_place : List ℕ → List ℕ → List ℕ → Option ℕ
word_place word other text = first_place (is_word_at word other text) 0 (length text)

-- a breakpoint, by its address, its number, and the texts before TIMES and from there on
abbrev pub limited : Scope → ℕ → Option ℕ → List ℕ → List ℕ → Result Command LineError
limited scope address number front behind =
    if_in scope front >>= λ condition. visits_in behind >>= λ times.
    Ok (command.SetBreakpoint (record {
      address = address;
      number = number;
      condition = condition;
      times = times;
    }))

abbrev pub limited_at : Scope → ℕ → Option ℕ → List ℕ → Option ℕ → Result Command LineError
limited_at scope address number text (Some i) = limited scope address number (trimmed (take i text)) (drop i text)
limited_at scope address number text None = limited scope address number text []

unfoldable pub limits_in : Scope → ℕ → Option ℕ → List ℕ → Result Command LineError
limits_in scope address number text =
    limited_at scope address number text (word_place (codes "TIMES") (codes "TIMES") text)

-- at an address: 0 and a number clear a breakpoint, all else sets one
abbrev pub placed : Scope → ℕ → Option ℕ → List ℕ → Result Command LineError
placed scope address (Some number) limits =
    if address == 0
    then (if length limits == 0 then Ok (command.ClearBreakpoint number) else Err fault.BehindCommand)
    else limits_in scope address (Some number) limits
placed scope address None limits = limits_in scope address None limits

-- `$B`, `a$B`, `a$nB` and `0$nB`, with the limits after them
unfoldable pub breakpoint_of : Scope → List ℕ → List ℕ → List ℕ → Result Command LineError
breakpoint_of scope before digits limits =
    if is_none (breakpoint_in digits) && not (length digits == 0) then Err fault.NoBreakpoint else
    if length before == 0
    then (if is_none (breakpoint_in digits) && (length limits == 0) then Ok command.ListStops else Err fault.NoAddress)
    else address_of scope before >>= λ address. placed scope address (breakpoint_in digits) limits

-- the address after `.BREAK`, and its limits
abbrev pub break_at : Scope → List ℕ → Option ℕ → Result Command LineError
break_at scope text (Some i) = address_of scope (trimmed (take i text)) >>= λ address. limits_in scope address None (drop i text)
break_at scope text None = address_of scope text >>= λ address. limits_in scope address None []

unfoldable pub break_of : Scope → List ℕ → Result Command LineError
break_of scope text = break_at scope text (word_place (codes "IF") (codes "TIMES") text)

-- the first blank after the command of a breakpoint
abbrev pub is_breakpoint : Option Cut → Bool
is_breakpoint (Some cut) = cut.letter == 66
is_breakpoint None = false

abbrev pub is_limit_at : List ℕ → ℕ → Bool
is_limit_at text i = is_blank (slice_index text i) && is_breakpoint (cut_of (take i text))

abbrev pub limits_place : List ℕ → Option ℕ
limits_place text = first_place (is_limit_at text) 0 (length text)

abbrev pub with_limits : Scope → Option Cut → List ℕ → Result Command LineError
with_limits scope (Some cut) limits = breakpoint_of scope cut.before cut.digits limits
with_limits scope None limits = Err fault.NoBreakpoint

-- ---- searches

-- `value<mask>`
abbrev pub masked : Scope → SearchKind → List ℕ → Result Search LineError
masked scope kind front =
    if has (is_byte 60) front
    then
    (value_of scope (after_first (is_byte 60) front) >>= λ mask. value_of scope (before_first (is_byte 60) front) >>= λ value.
    Ok (record {
      kind = kind;
      value = value;
      mask = Some mask;
      range = None;
    }))
    else Err fault.NoMask

-- `a<b>value`
abbrev pub ranged : Scope → SearchKind → List ℕ → List ℕ → Result Search LineError
ranged scope kind front behind =
    if has (is_byte 60) front
    then
    (address_of scope (before_first (is_byte 60) front) >>= λ first. address_of scope (after_first (is_byte 60) front) >>= λ last.
    value_of scope behind >>= λ value.
    Ok (record {
      kind = kind;
      value = value;
      mask = None;
      range = Some (first, last);
    }))
    else Err fault.NoRange

unfoldable pub search_of : Scope → SearchKind → List ℕ → Result Search LineError
search_of scope kind before =
    if has (is_byte 62) before
    then
    (if length (after_first (is_byte 62) before) == 0
    then masked scope kind (before_first (is_byte 62) before)
    else ranged scope kind (before_first (is_byte 62) before) (after_first (is_byte 62) before))
    else value_of scope before >>= λ value.
    Ok (record {
      kind = kind;
      value = value;
      mask = None;
      range = None;
    })

-- ---- commands with a value

abbrev pub deposit : Scope → List ℕ → Result Command LineError
deposit scope text = value_of scope text >>= λ word. Ok (command.Deposit word)

-- an instruction has an operation: its left half is not 0
abbrev pub execute_of : Scope → List ℕ → Result Command LineError
execute_of scope before =
    if (length before == 0) || (is_doubled before || is_number before) then execute_in before else
    value_of scope before >>= λ word. if left_half word == 0 then Err fault.NoTimes else Ok (command.ExecuteWord word)

abbrev pub go_of : Scope → List ℕ → Result Command LineError
go_of scope before =
    if length before == 0 then Ok command.Go else address_of scope before >>= λ address. Ok (command.GoAt address)

-- ---- all commands of `$`

-- those whose letter has nothing but digits before it, and those that are not here
abbrev pub refused_by : Bool → ℕ → Option LineError
refused_by is_mode letter =
    if (letter == 71) || ((letter == 80) || ((letter == 88) || is_search letter)) then Some fault.NoEscape else
    if letter == 75 then Some fault.NoSymbols else
    if (letter == 79) && is_mode then Some fault.NoBytes else
    if letter == 89 then Some fault.NoPunch else
    if letter == 90 then Some fault.NoFilling else None

-- a letter of no command: the line is a value
abbrev pub or_deposit : Scope → List ℕ → Option LineError → Result Command LineError
or_deposit scope text (Some fault) = Err fault
or_deposit scope text None = deposit scope text

-- commands with no digits after `$`
abbrev pub by_letter : Scope → Cut → List ℕ → Result Command LineError
by_letter scope cut text =
    if cut.letter == 71 then go_of scope cut.before else
    if cut.letter == 80 then proceed_in cut.before else
    if cut.letter == 88 then execute_of scope cut.before else
    if is_search cut.letter
    then (search_of scope (kind_of cut.letter) cut.before >>= λ search. Ok (command.Search search))
    else or_deposit scope text (refused_by (is_of_mode cut.before) cut.letter)

-- modes, with no digits and with digits
abbrev pub mode_command : ℕ → Option OutputMode → Option Command
mode_command letter (Some mode) = Some (command.SetMode mode)
mode_command letter None =
    if letter == 65 then Some (command.SetAddresses true) else
    if letter == 82 then Some (command.SetAddresses false) else None

abbrev pub or_letter : Scope → Cut → List ℕ → Option Command → Result Command LineError
or_letter scope cut text (Some command) = Ok command
or_letter scope cut text None = by_letter scope cut text

abbrev pub plain_command : Scope → Cut → List ℕ → Result Command LineError
plain_command scope cut text =
    if is_of_mode cut.before then or_letter scope cut text (mode_command cut.letter (mode_of cut.letter)) else by_letter scope cut text

abbrev pub with_digits : Scope → Cut → List ℕ → Result Command LineError
with_digits scope cut text =
    if (cut.letter == 82) && is_of_mode cut.before then radix_in (number_of 10 cut.digits) else
    if (cut.letter == 84) && is_of_mode cut.before then text_mode_in (number_of 10 cut.digits) else
    or_deposit scope text (refused_by (is_of_mode cut.before) cut.letter)

unfoldable pub escaped_of : Scope → Cut → List ℕ → Result Command LineError
escaped_of scope cut text =
    if cut.letter == 66 then breakpoint_of scope cut.before cut.digits [] else
    if length cut.digits == 0 then plain_command scope cut text else with_digits scope cut text

-- ---- opening and changing

-- `$M`, the mask of searches
abbrev pub is_mask : Option Cut → Bool
is_mask (Some cut) = (length cut.before == 0) && ((cut.letter == 77) && (length cut.digits == 0))
is_mask None = false

-- `$nB`
abbrev pub is_shown_breakpoint : Option Cut → Bool
is_shown_breakpoint (Some cut) = (length cut.before == 0) && (cut.letter == 66)
is_shown_breakpoint None = false

abbrev pub show_breakpoint : Option ℕ → Result Command LineError
show_breakpoint (Some n) = Ok (command.ShowBreakpoint n)
show_breakpoint None = Err fault.NoBreakpoint

abbrev pub digits_in : Option Cut → List ℕ
digits_in (Some cut) = cut.digits
digits_in None = []

-- `a/`, `$M/` and `$nB/`
unfoldable pub open_of : Scope → List ℕ → Result Command LineError
open_of scope text =
    if is_mask (cut_of text) then Ok command.OpenMask else
    if is_shown_breakpoint (cut_of text) then show_breakpoint (breakpoint_in (digits_in (cut_of text))) else
    address_of scope text >>= λ address. Ok (command.Open address)

-- `a/ value` and `$M/ value`
unfoldable pub change_of : Scope → List ℕ → List ℕ → Result Command LineError
change_of scope place value =
    if is_mask (cut_of place) then (value_of scope value >>= λ word. Ok (command.ChangeMask word)) else
    address_of scope place >>= λ address. value_of scope value >>= λ word. Ok (command.Change address word)

-- the first `/` has a value after it, and no quotation mark before it
abbrev pub is_change : List ℕ → Bool
is_change text =
    has (is_byte 47) text
    && (not (length (after_first (is_byte 47) text) == 0) && not (has (is_byte 34) (before_first (is_byte 47) text)))

abbrev pub change_in : Scope → List ℕ → Option (Result Command LineError)
change_in scope text =
    if is_change text then Some (change_of scope (before_first (is_byte 47) text) (after_first (is_byte 47) text)) else None

-- ---- whole lines

-- a text in quotation marks may have any character
abbrev pub by_value : Result ℕ LineError → Option (Result Command LineError) → Option Command
by_value (Ok word) change = Some (command.Deposit word)
by_value (Err e) (Some (Ok command)) = Some command
by_value (Err e) (Some (Err f)) = None
by_value (Err e) None = None

abbrev pub quoted : Scope → List ℕ → Option Command
quoted scope text = if has (is_byte 34) text then by_value (value_of scope text) (change_in scope text) else None

-- `a/ value`, a command of `$`, or a value to deposit
abbrev pub by_change : Scope → List ℕ → Option (Result Command LineError) → Option Cut → Result Command LineError
by_change scope text (Some (Ok change)) cut = Ok change
by_change scope text (Some (Err e)) (Some cut) = escaped_of scope cut text
by_change scope text (Some (Err e)) None = Err e
by_change scope text None (Some cut) = escaped_of scope cut text
by_change scope text None None = deposit scope text

unfoldable pub other_of : Scope → List ℕ → Result Command LineError
other_of scope text = by_change scope text (change_in scope text) (cut_of text)

-- by the last character
abbrev pub ends : ℕ → List ℕ → Bool
ends c text = nat_lt 0 (length text) && (slice_index text (length text - 1) == c)

abbrev pub front_of : List ℕ → List ℕ
front_of text = take (length text - 1) text

abbrev pub open_as : Scope → List ℕ → Opening → Result Command LineError
open_as scope text how = address_of scope text >>= λ address. Ok (command.OpenAs address how)

abbrev pub evaluate : Scope → List ℕ → Retype → Result Command LineError
evaluate scope text how = value_of scope text >>= λ word. Ok (command.Evaluate word how)

abbrev pub is_table : List ℕ → Bool
is_table text = nat_lt 1 (length text) && is_escape (slice_index text (length text - 2))

unfoldable pub by_last : Scope → List ℕ → Result Command LineError
by_last scope text =
    if ends 47 text then open_of scope (front_of text) else
    if ends 91 text then open_as scope (front_of text) opening.Octal else
    if ends 93 text then open_as scope (front_of text) opening.Symbolic else
    if ends 33 text then open_as scope (front_of text) opening.Unseen else
    if ends 61 text then evaluate scope (front_of text) retype.Octal else
    if ends 95 text then evaluate scope (front_of text) retype.Symbolic else
    if ends 59 text then evaluate scope (front_of text) retype.Text else
    if ends 58 text then (if is_table text then Err fault.NoTables else Err fault.NoSymbols) else
    if ends 92 text then Err fault.NoBackslash else other_of scope text

abbrev pub or_last : Scope → List ℕ → Option Command → Result Command LineError
or_last scope text (Some command) = Ok command
or_last scope text None = by_last scope text

abbrev pub by_limits : Scope → List ℕ → Option ℕ → Result Command LineError
by_limits scope text (Some i) = with_limits scope (cut_of (take i text)) (trimmed (drop (i + 1) text))
by_limits scope text None = or_last scope text (quoted scope text)

unfoldable pub value_line : Scope → List ℕ → Result Command LineError
value_line scope text = by_limits scope text (limits_place text)

-- the words that a person types who does not know the commands yet, unless they are symbols
abbrev pub is_question : List ℕ → Bool
is_question text =
    is_name (codes "?") text
    || (is_name (codes "HELP") text
    || (is_name (codes "QUIT") text || (is_name (codes "EXIT") text || (is_name (codes "H") text || is_name (codes "Q") text))))

-- a text of one character
abbrev pub is_only : ℕ → List ℕ → Bool
is_only c text = (length text == 1) && (slice_index text 0 == c)

-- a line without blanks round it, of no dot command
unfoldable pub command_in : Scope → List ℕ → Result Command LineError
command_in scope text =
    if is_only 94 text then Ok command.Previous else
    if is_only 61 text then Ok (command.Retype retype.Octal) else
    if is_only 95 text then Ok (command.Retype retype.Symbolic) else
    if is_only 59 text then Ok (command.Retype retype.Text) else
    if begins 59 text then Ok command.Remark else
    if is_question text && is_err (value_of scope text) then Err fault.AsksForHelp else value_line scope text

-- a point and a letter begin a dot command
abbrev pub is_dot : List ℕ → Bool
is_dot text = begins 46 text && (nat_lt 1 (length text) && is_ascii_alphabetic (slice_index text 1))

-- the mode in which the last quantity is shown
abbrev pub retyped_in : Retype → OutputMode
retyped_in retype.Octal = mode.Octal
retyped_in retype.Symbolic = mode.Symbolic
retyped_in retype.Text = mode.Text
