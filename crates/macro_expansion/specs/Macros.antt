-- Macros: dummies, arguments, and the bodies with arguments in place of dummies (MACRO-10 Assembler Manual).
use Rattle.std.specs.Prelude.{ℕ, zero, suc, ◌+◌, ◌-◌, ◌/◌, ◌%◌, Result, Ok, Err, Bool, true, false, ◌==◌, ◌||◌, ◌&&◌, not, is_some, nat_eq, nat_le, nat_lt}
use Rattle.std.specs.Prelude.{List, [], ◌∷◌, ◌++◌, length, take, drop, position, Option, Some, None, if◌then◌else◌}
use Rattle.std.specs.Option.{option_map}
use Rattle.mac_text.specs.Characters.{is_blank, is_name_character, upper_case}
use Rattle.mac_text.specs.Names.{symbol_of}
use Rattle.mac_text.specs.Scan.{after_blanks, begins_with, word_of}
use Rattle.mac_text.specs.Texts.{up_to_next}
use Rattle.macro_expressions.specs.declared.fault.Stop.{Stop}
use Rattle.macro_expressions.specs.declared.fault.Stop.TheVariants.{Beyond}
use Rattle.macro_expressions.specs.Reading.{◌>>=◌, or_stop, begins_name, ends_line, between}
use Rattle.macro_expansion.specs.Marked.{has_marks}
use Rattle.macro_expansion.specs.Brackets.{bracketed, past_comma}

-- ---- dummies

-- the symbols of dummies, and their defaults, each with a 255 after it; the default of one that begins with `%` is 254, for a new name
pub record Dummies : Type 0 where
  pub names : List ℕ
  pub defaults : List ℕ

abbrev pub no_dummies : Dummies
no_dummies = record { names = []; defaults = [] }

-- after the name of a dummy: its default in brackets, or nothing, and what comes after
abbrev pub default_next : List ℕ → Result (List ℕ × List ℕ) Stop
default_next text = if begins_with 60 text then or_stop Beyond (bracketed text) else Ok ([], text)

abbrev pub default_of : List ℕ → List ℕ → List ℕ
default_of name default = if begins_with 37 name then 254 ∷ [] else default

abbrev pub with_dummy : List ℕ → List ℕ → Dummies → Dummies
with_dummy name default d =
    record { names = d.names ++ symbol_of name ∷ []; defaults = d.defaults ++ (default_of name default ++ 255 ∷ []) }

-- a name and its default, if it has one
abbrev pub dummy_next : Dummies → List ℕ → Result (Dummies × List ℕ) Stop
dummy_next d text =
    if begins_name text
    then (default_next (after_blanks (drop (length (word_of text)) text)) >>= λ x. Ok (with_dummy (word_of text) x.0 d, x.1))
    else Err Beyond

-- `)`, or one more dummy: whether that is the end
abbrev pub end_or_dummy : Dummies → List ℕ → Result (Bool × (Dummies × List ℕ)) Stop
end_or_dummy d text =
    if begins_with 41 text then Ok (true, (d, drop 1 text)) else dummy_next d text >>= λ x. Ok (false, x)

-- dummies up to `)`, at most n, after those that are read
unfoldable pub dummies_at : ℕ → Dummies → List ℕ → Result (Dummies × List ℕ) Stop
dummies_at zero d text = Err Beyond
dummies_at (suc n) d text = do
  x ← end_or_dummy d (past_comma text)
  elim x.0 [ true ↦ Ok x.1 | false ↦ dummies_at n (x.1).0 (x.1).1 ]

-- a text less the rest that comes at its end
abbrev pub less_rest : List ℕ → List ℕ → List ℕ
less_rest text rest = take (length text - length rest) text

-- ---- definitions

-- after a name: the dummies with `)`, or only `)`, and what comes after
abbrev pub head_in : List ℕ → Result (List ℕ × List ℕ) Stop
head_in [] = Err Beyond
head_in (c ∷ cs) =
    elim (c == 40) [
      | true ↦ dummies_at 100 no_dummies cs >>= λ x. Ok (less_rest cs x.1, x.1)
      | false ↦ Ok (41 ∷ [], c ∷ cs)
    ]

-- a body without its comments from `;;` on, after what is kept of it: whether such a comment is open
unfoldable pub uncommented : Bool → List ℕ → List ℕ → List ℕ
uncommented in_comment kept [] = kept
uncommented true kept (c ∷ cs) = elim (c == 10) [ true ↦ uncommented false (kept ++ c ∷ []) cs | false ↦ uncommented true kept cs ]
uncommented false kept (c ∷ cs) =
    elim (c == 59 && begins_with 59 cs) [ true ↦ uncommented true kept cs | false ↦ uncommented false (kept ++ c ∷ []) cs ]

-- no marks are kept, which rounds of IRP have in place of characters
abbrev pub kept_text : List ℕ → Result (List ℕ) Stop
kept_text text = if has_marks text then Err Beyond else Ok (text ++ 254 ∷ [])

-- the definition of a macro, after its name: as it is kept, which is the dummies, `)`, the body and 254; and what comes after
unfoldable pub definition_at : List ℕ → Result (List ℕ × List ℕ) Stop
definition_at text = do
  head ← head_in (after_blanks text)
  body ← or_stop Beyond (bracketed (between false (past_comma head.1)))
  kept ← kept_text (uncommented false head.0 body.0)
  Ok (kept, body.1)

-- ---- arguments

-- an argument as it is read: how many `<`, and how many `(` and `[`, are open; its characters, how many of them are before the
-- blanks at its end, and whether anything but blanks is there, such as `<>`
pub record Argument : Type 0 where
  pub angles : ℕ
  pub others : ℕ
  pub text : List ℕ
  pub kept : ℕ
  pub is_there : Bool

abbrev pub no_argument : Argument
no_argument = record { angles = 0; others = 0; text = []; kept = 0; is_there = false }

-- a character that does not belong to the argument: a mark; outside of `< >` the end of the line, a comment unless there are
-- parentheses around the arguments, `>`, and, outside of all brackets, a comma or a closing bracket
abbrev pub ends_argument : Bool → Argument → ℕ → Bool
ends_argument in_parentheses a c =
    nat_le 128 c || (a.angles == 0 && (c == 10 || (c == 13 || (c == 62 || ((c == 59 && not in_parentheses) || (a.others == 0 && (c == 44 || (c == 93 || c == 41))))))))

abbrev pub with_character : ℕ → Argument → Argument
with_character c a = record a { text = a.text ++ c ∷ []; kept = length a.text + 1; is_there = true }

-- the outermost `< >` go
abbrev pub with_open : Argument → Argument
with_open a =
    if a.angles == 0 && a.others == 0 then record a { angles = 1 }
    else record (with_character 60 a) { angles = a.angles + 1 }

abbrev pub with_close : Argument → Argument
with_close a =
    if a.angles == 1 && a.others == 0 then record a { angles = 0; kept = length a.text; is_there = true }
    else record (with_character 62 a) { angles = a.angles - 1 }

-- outside of `< >`
abbrev pub with_outer : ℕ → Argument → Argument
with_outer c a =
    if is_blank c then record a { text = a.text ++ c ∷ [] }
    else if c == 40 || c == 91 then record (with_character c a) { others = a.others + 1 }
    else if c == 41 || c == 93 then record (with_character c a) { others = a.others - 1 }
    else with_character c a

abbrev pub with_next : ℕ → Argument → Argument
with_next c a =
    if c == 60 then with_open a else if c == 62 then with_close a
    else if a.angles == 0 then with_outer c a else with_character c a

-- an argument, if one is there, and what comes after, from its first character on; `\` is not judged
abbrev pub argument_done : Argument → List ℕ → Result (Option (List ℕ) × List ℕ) Stop
argument_done a rest =
    if a.angles == 0 then Ok (if a.is_there then Some (take a.kept a.text) else None, rest) else Err Beyond

unfoldable pub argument_from : Bool → Argument → List ℕ → Result (Option (List ℕ) × List ℕ) Stop
argument_from in_parentheses a [] = argument_done a []
argument_from in_parentheses a (c ∷ cs) =
    elim (ends_argument in_parentheses a c) [
      | true ↦ argument_done a (c ∷ cs)
      | false ↦ argument_from in_parentheses (with_next c a) cs
    ]

abbrev pub argument_at : Bool → List ℕ → Result (Option (List ℕ) × List ℕ) Stop
argument_at in_parentheses text = if begins_with 92 text then Err Beyond else argument_from in_parentheses no_argument text

-- the arguments of a call so far, each with a 255 after it, which is no character; the defaults of the dummies that have none so far;
-- and how many names were made
pub record Given : Type 0 where
  pub text : List ℕ
  pub defaults : List ℕ
  pub made : ℕ

-- the tens, hundreds or thousands of a number, as a digit
abbrev pub digit_of : ℕ → ℕ → ℕ
digit_of unit n = (n / unit) % 10 + 48

-- `..0001` is the first name that is made
abbrev pub made_name : ℕ → List ℕ
made_name n = 46 ∷ 46 ∷ digit_of 1000 n ∷ digit_of 100 n ∷ digit_of 10 n ∷ digit_of 1 n ∷ []

abbrev pub with_text : List ℕ → Given → Given
with_text text g = record g { text = g.text ++ (text ++ 255 ∷ []) }

-- 9999 names are judged
abbrev pub next_made : ℕ → ℕ
next_made n = if nat_lt n 10000 then n + 1 else n

abbrev pub with_made : Given → Given
with_made g = with_text (made_name (next_made g.made)) (record g { made = next_made g.made })

-- a dummy without an argument
abbrev pub with_default : List ℕ → Given → Given
with_default default g = if begins_with 254 default then with_made g else with_text default g

abbrev pub with_one : Option (List ℕ) → List ℕ → Given → Given
with_one None default g = with_default default g
with_one (Some text) default g = with_text text g

-- the next dummy has this argument, or none; arguments without a dummy are dropped
abbrev pub with_argument : Option (List ℕ) → Given → Given
with_argument one g =
    elim (up_to_next 255 g.defaults) [ None ↦ g | Some x ↦ with_one one x.0 (record g { defaults = x.1 }) ]

-- all other dummies have none, of which there are at most n
unfoldable pub completed : ℕ → Given → Given
completed zero g = g
completed (suc n) g = elim (length g.defaults == 0) [ true ↦ g | false ↦ completed n (with_argument None g) ]

-- arguments with commas between them, at most n, after those that are read
unfoldable pub arguments_at : Bool → ℕ → Given → List ℕ → Result (Given × List ℕ) Stop
arguments_at in_parentheses zero g text = Err Beyond
arguments_at in_parentheses (suc n) g text = do
  x ← argument_at in_parentheses (after_blanks text)
  elim (begins_with 44 x.1) [
    | true ↦ arguments_at in_parentheses n (with_argument x.0 g) (drop 1 x.1)
    | false ↦ Ok (with_argument x.0 g, x.1)
  ]

-- in parentheses, or up to the end of the line
abbrev pub closed_list : Given × List ℕ → Result (Given × List ℕ) Stop
closed_list x = if begins_with 41 x.1 then Ok (x.0, drop 1 x.1) else Err Beyond

abbrev pub line_list : Given × List ℕ → Result (Given × List ℕ) Stop
line_list x = if ends_line x.1 then Ok x else Err Beyond

abbrev pub list_at : Given → List ℕ → Result (Given × List ℕ) Stop
list_at g text =
    elim (begins_with 40 text) [
      | true ↦ arguments_at true 100 g (drop 1 text) >>= λ x. closed_list x
      | false ↦ arguments_at false 100 g text >>= λ x. line_list x
    ]

-- a macro without dummies reads no arguments
abbrev pub given_at : Given → List ℕ → Result (Given × List ℕ) Stop
given_at g text =
    if length g.defaults == 0 then Ok (g, text) else list_at g (after_blanks text) >>= λ x. Ok (completed 100 x.0, x.1)

-- ---- bodies

-- dummies as they are written, with `)`, and as symbols; and their arguments
pub record Bound : Type 0 where
  pub head : List ℕ
  pub names : List ℕ
  pub given : List ℕ

-- an argument by its number; one that is not there is nothing
unfoldable pub argument_in : ℕ → List ℕ → List ℕ
argument_in zero given = elim (up_to_next 255 given) [ None ↦ [] | Some x ↦ x.0 ]
argument_in (suc n) given = elim (up_to_next 255 given) [ None ↦ [] | Some x ↦ argument_in n x.1 ]

-- the argument of a dummy
abbrev pub argument_of : Bound → ℕ → Option (List ℕ)
argument_of b name = option_map (λ n. argument_in n b.given) (position (λ dummy. dummy == name) b.names)

-- the argument of the dummy that a text begins with
abbrev pub dummy_at : Bound → List ℕ → Option (List ℕ)
dummy_at b text = if begins_name text then argument_of b (symbol_of (word_of text)) else None

-- IRP and IRPC
abbrev pub is_irp : List ℕ → Bool
is_irp [] = false
is_irp (c ∷ []) = false
is_irp (c ∷ d ∷ []) = false
is_irp (c ∷ d ∷ e ∷ []) = upper_case c == 73 && (upper_case d == 82 && upper_case e == 80)
is_irp (c ∷ d ∷ e ∷ f ∷ []) = upper_case c == 73 && (upper_case d == 82 && (upper_case e == 80 && upper_case f == 67))
is_irp (c ∷ d ∷ e ∷ f ∷ g ∷ cs) = false

-- after IRP: a name, in parentheses or not, and what comes after
abbrev pub closed_name : List ℕ → Option (List ℕ × List ℕ)
closed_name text =
    if begins_with 41 (after_blanks (drop (length (word_of text)) text))
    then Some (word_of text, drop 1 (after_blanks (drop (length (word_of text)) text)))
    else None

abbrev pub irp_name : List ℕ → Option (List ℕ × List ℕ)
irp_name text =
    if begins_with 40 text then closed_name (after_blanks (drop 1 text)) else Some (word_of text, drop (length (word_of text)) text)

-- what a body has in place of IRP, a dummy and a text: 254, and in brackets the dummy's argument, all arguments, and the text with
-- the dummies before it, of which that one is the first
abbrev pub block : Bound → List ℕ → List ℕ → List ℕ → List ℕ → List ℕ
block b irp argument name text =
    ((((((((((irp ++ 254 ∷ []) ++ 60 ∷ []) ++ argument) ++ 254 ∷ []) ++ b.given) ++ 254 ∷ []) ++ name) ++ 44 ∷ []) ++ b.head) ++ text) ++ 62 ∷ []

abbrev pub block_with : Bound → List ℕ → List ℕ → Option (List ℕ) → Option (List ℕ × List ℕ) → Option (List ℕ × List ℕ)
block_with b irp name None text = None
block_with b irp name (Some argument) None = None
block_with b irp name (Some argument) (Some text) = Some (block b irp argument name text.0, text.1)

-- that, and what comes after, if the name is that of a dummy and a text in brackets follows
abbrev pub block_of : Bound → List ℕ → Option (List ℕ × List ℕ) → Option (List ℕ × List ℕ)
block_of b irp None = None
block_of b irp (Some name) = block_with b irp name.0 (dummy_at b name.0) (bracketed (past_comma name.1))

abbrev pub block_at : Bound → List ℕ → Option (List ℕ × List ℕ)
block_at b text =
    if is_irp (word_of text) then block_of b (word_of text) (irp_name (after_blanks (drop (length (word_of text)) text))) else None

-- a body as its dummies are found: its text so far, and how many characters are passed over
pub record Filling : Type 0 where
  pub text : List ℕ
  pub skips : ℕ

abbrev pub unfilled : Filling
unfilled = record { text = []; skips = 0 }

abbrev pub quote_length : List ℕ → ℕ
quote_length text = if begins_with 39 text then 1 else 0

-- a name or number that is no dummy stays as it is; the text of an IRP is kept for its rounds
abbrev pub filled_block : Option (List ℕ × List ℕ) → List ℕ → Filling → Filling
filled_block None text f = record f { text = f.text ++ word_of text; skips = length (word_of text) - 1 }
filled_block (Some x) text f = record f { text = f.text ++ x.0; skips = length text - length x.1 - 1 }

-- a name or number: its argument, if it is a dummy, and a `'` right after it goes
abbrev pub filled_word : Bound → Option (List ℕ) → List ℕ → Filling → Filling
filled_word b (Some argument) text f =
    record f { text = f.text ++ argument; skips = length (word_of text) - 1 + quote_length (drop (length (word_of text)) text) }
filled_word b None text f = filled_block (block_at b text) text f

-- a character between names; a `'` right before a dummy goes
abbrev pub filled_other : Bool → ℕ → Filling → Filling
filled_other is_quote c f = if is_quote then f else record f { text = f.text ++ c ∷ [] }

abbrev pub filled_open : Bound → ℕ → List ℕ → Filling → Filling
filled_open b c cs f =
    if is_name_character c then filled_word b (dummy_at b (c ∷ cs)) (c ∷ cs) f
    else filled_other (c == 39 && is_some (dummy_at b cs)) c f

abbrev pub filled_next : Bound → ℕ → List ℕ → Filling → Filling
filled_next b c cs f = if nat_eq f.skips 0 then filled_open b c cs f else record f { skips = f.skips - 1 }

unfoldable pub filled : Bound → Filling → List ℕ → List ℕ
filled b f [] = f.text
filled b f (c ∷ cs) = filled b (filled_next b c cs f) cs

-- ---- calls

-- a macro that was defined so, after its name, if n names were made before: its body with its arguments, how many names are made now,
-- and what comes after
unfoldable pub call_at : List ℕ → ℕ → List ℕ → Result ((List ℕ × ℕ) × List ℕ) Stop
call_at definition made text = do
  dummies ← dummies_at 100 no_dummies definition
  body ← or_stop Beyond (up_to_next 254 dummies.1)
  given ← given_at (record { text = []; defaults = (dummies.0).defaults; made = made }) text
  Ok (
    (
      filled (record { head = less_rest definition dummies.1; names = (dummies.0).names; given = (given.0).text }) unfilled body.0,
      (given.0).made,
    ),
    given.1,
  )
