-- What a source means: the words at their places, and the start (MACRO-10 Assembler Manual). A table has the last value of each
-- symbol, and a list the places of the pools of literals: with them the two passes are one walk over the statements. What decides
-- which statements there are does not depend on the table.
use Rattle.std.specs.Prelude.{◌≡◌, ℕ, zero, suc, ◌+◌, ◌-◌, ◌^◌, ℤ, pos, int_lt, int_le, replicate, Result, Ok, Err, Bool, true, false, ◌==◌, ◌||◌, ◌&&◌, not, is_some, nat_eq, nat_le, nat_lt, IsPermutation}
use Rattle.std.specs.Prelude.{List, [], ◌∷◌, ◌++◌, length, drop, Option, Some, None, unwrap_or, if◌then◌else◌}
use Rattle.std.specs.List.{list_all, list_any}
use Rattle.std.specs.Map.{lookup}
use Rattle.std.specs.Ordering.{int_eq}
use Rattle.std.specs.Str.{bytes_eq}
use Rattle.word36.specs.Words.{signed_value}
use Rattle.indexmap.specs.IndexMap.{insert_entry}
use Rattle.mac_text.specs.Names.{symbol_of}
use Rattle.mac_text.specs.Scan.{begins_with, after_blanks, word_of}
use Rattle.mac_text.specs.Texts.{text_from}
use Rattle.macro_values.specs.Values.{has_word}
use Rattle.macro_expressions.specs.declared.fault.Stop.{Stop}
use Rattle.macro_expressions.specs.declared.fault.Stop.TheVariants.{Wrong, Beyond}
use Rattle.macro_statements.specs.declared.forms.Meant.{Meant}
use Rattle.macro_statements.specs.declared.forms.Meant.TheVariants.{Operation, Pseudo}
use Rattle.macro_statements.specs.declared.forms.Test.{Test}
use Rattle.macro_statements.specs.declared.forms.Test.TheVariants.{Equal, Unequal, Greater, NotLess, Less, NotGreater}
use Rattle.macro_statements.specs.declared.forms.Form.{Form}
use Rattle.macro_statements.specs.declared.forms.Form.TheVariants as forms
use Rattle.macro_expressions.specs.declared.symbols.Defined.{Defined}
use Rattle.macro_expressions.specs.Reading.{◌>>=◌, Front, or_stop, without, skipped, begins_name, ends_line, without_line, across_lines}
use Rattle.macro_expansion.specs.Brackets.{past_comma, text_next, lined, times, rounds_of, joins, compared, is_spaces}
use Rattle.macro_expansion.specs.Marked.{is_mark, has_marks}
use Rattle.macro_expansion.specs.Macros.{definition_at, call_at}
use Rattle.macro_expansion.specs.Rounds.{rounds_at}
use Rattle.macro_statements.specs.Forms.{built_in}
use Rattle.macro_statements.specs.Mentions.{behind_word, mentions, surveyed}
use Rattle.macro_expressions.specs.Values.{Names, Scope, defined_as, as_word, as_natural, optional_at}
use Rattle.macro_statements.specs.Words.{words_by, form_words, meant_at, inside_at, scope_with}

-- what the statements so far have left: the place of the next word, the symbols so far with their last values, the places of the
-- pools to come, the words so far with their places, and the start, after END; the names that may be macros, the definitions so far as
-- they are kept, and the position of each macro's in them; the names that a condition found not defined; whether the
-- values so far are the same whatever the table has; how many characters were put in front, and how many names were made; and whether
-- the round of IRP that is read is the last, if one is
pub record Walk : Type 0 where
  pub place : ℕ
  pub defined : List (ℕ × Defined)
  pub pools : List ℤ
  pub words : List (ℕ × ℕ)
  pub start : Option ℕ
  pub callable : List ℕ
  pub macros : List (ℕ × ℕ)
  pub kept : List ℕ
  pub asked : List ℕ
  pub is_sure : Bool
  pub spent : ℕ
  pub made : ℕ
  pub is_last : Option Bool

abbrev pub first_place : ℕ
first_place = 0o140

abbrev pub begun : List ℤ → List ℕ → Walk
begun pools callable =
    record {
      place = first_place;
      defined = [];
      pools = pools;
      words = [];
      start = None;
      callable = callable;
      macros = [];
      kept = [];
      asked = [];
      is_sure = true;
      spent = 0;
      made = 0;
      is_last = None;
    }

-- ---- names

abbrev pub next_pool : List ℤ → ℤ
next_pool [] = pos 0
next_pool (place ∷ places) = place

abbrev pub names_of : List (ℕ × ℤ) → Walk → Names
names_of table w = record { table = table; defined = w.defined; macros = w.callable; here = pos w.place; pool_at = next_pool w.pools }

abbrev pub scope_of : List (ℕ × ℤ) → Walk → Scope
scope_of table w = scope_with (names_of table w)

abbrev pub defining : ℕ → ℤ → Bool → Walk → Walk
defining name value is_label w = record w { defined = insert_entry nat_eq w.defined name (record { value = value; is_label = is_label }) }

-- ---- places

-- words at the places that are next
abbrev pub put : ℕ → Walk → Walk
put word w = record w { place = w.place + 1; words = w.words ++ (w.place, word) ∷ [] }

abbrev pub put_all : List ℕ → Walk → Walk
put_all [] w = w
put_all (word ∷ words) w = put_all words (put word w)

-- there are 1000000 places
abbrev pub putting : List ℕ → Walk → Result Walk Stop
putting words w = if length words == 0 || nat_le (w.place + length words) (2 ^ 18) then Ok (put_all words w) else Err Wrong

abbrev pub is_place : ℤ → ℕ → Bool
is_place z place = int_eq z (pos place)

-- the literals so far are at the place that the list has for them
abbrev pub placing : List ℕ → Walk → Result Walk Stop
placing pool w =
    if length pool == 0 || is_place (next_pool w.pools) w.place then putting pool (record w { pools = drop 1 w.pools }) else Err Wrong

-- ---- statements

-- what a statement leaves, and the rest to read
abbrev pub Left : Type 0
Left = Walk × Front

unfoldable pub pool_step : Walk → Front → Result Left Stop
pool_step w s = placing s.pool w >>= λ v. Ok (v, record s { pool = [] })

-- words that are read are put at the places that are next
abbrev pub words_step : Walk → Result (List ℕ × Front) Stop → Result Left Stop
words_step w read = do
  x ← read
  v ← putting x.0 w
  Ok (v, x.1)

-- ---- values that are known by then

-- an expression, or a statement of one word, only by what was defined so far, and the rest; a literal has no place by then
abbrev pub without_literals : Result (Option ℤ × Front) Stop → Result (Option ℤ × List ℕ) Stop
without_literals read = read >>= λ x. if length (x.1).pool == 0 then Ok (x.0, (x.1).rest) else Err Wrong

unfoldable pub early_value : Walk → Front → Result (Option ℤ × List ℕ) Stop
early_value w s = without_literals (optional_at (scope_of [] w) (record s { pool = [] }))

unfoldable pub early_word : Walk → Front → Result (Option ℤ × List ℕ) Stop
early_word w s = without_literals (inside_at (scope_of [] w) (record s { pool = [] }))

abbrev pub is_read : {X : Type 0} → Result X Stop → Bool
is_read (Ok x) = true
is_read (Err stop) = false

-- a number from 0 to a greatest, which has to be there
unfoldable pub early_natural : ℕ → Walk → Front → Result (ℕ × List ℕ) Stop
early_natural most w s = do
  x ← early_value w s
  z ← or_stop Beyond x.0
  n ← as_natural most z
  Ok (n, x.1)

unfoldable pub place_step : Walk → Front → Result Left Stop
place_step w s = do
  x ← early_natural (2 ^ 27) w s
  Ok (record w { place = x.0 }, record s { rest = x.1 })

-- n words of 0
unfoldable pub block_step : Walk → Front → Result Left Stop
block_step w s = do
  x ← early_natural (2 ^ 18) w s
  v ← putting (replicate x.0 0) w
  Ok (v, record s { rest = x.1 })

-- a value is read in decimal
unfoldable pub radix_step : Walk → Front → Result Left Stop
radix_step w s = do
  x ← early_natural 10 w (record s { radix = 10 })
  if nat_le 2 x.0 then Ok (w, record s { rest = x.1; radix = x.0 }) else Err Wrong

unfoldable pub end_step : Scope → Walk → Front → Result Left Stop
end_step scope w s = do
  x ← optional_at scope s
  n ← as_natural (2 ^ 18 - 1) (unwrap_or x.0 (pos first_place))
  v ← placing (x.1).pool w
  Ok (record v { start = Some n }, record (x.1) { pool = [] })

-- the rest of a line says nothing, if it has no mark
unfoldable pub is_plain_line : List ℕ → Bool
is_plain_line [] = true
is_plain_line (c ∷ cs) = elim (c == 10 || is_mark c) [ true ↦ c == 10 | false ↦ is_plain_line cs ]

abbrev pub line_step : Walk → Front → Result Left Stop
line_step w s = if is_plain_line s.rest then Ok (w, without_line s) else Err Beyond

-- STOPI: the round that is read is the last
abbrev pub stop_step : Walk → Front → Result Left Stop
stop_step w s = if is_some w.is_last then Ok (record w { is_last = Some true }, s) else Err Wrong

-- before a round: it is read, or nothing more is
abbrev pub round_step : Option Bool → Walk → Front → Result Left Stop
round_step None w s = Err Beyond
round_step (Some true) w s = Ok (w, record s { rest = [] })
round_step (Some false) w s = Ok (w, without 1 s)

-- after the name of a pseudo-operation
abbrev pub form_step : Scope → Form → Walk → Front → Result Left Stop
form_step scope forms.Loc w s = place_step w s
form_step scope forms.Radix w s = radix_step w s
form_step scope forms.Block w s = block_step w s
form_step scope forms.Lit w s = pool_step w s
form_step scope forms.End w s = end_step scope w s
form_step scope forms.Title w s = line_step w s
form_step scope forms.Remark w s = line_step w s
form_step scope forms.Stopi w s = stop_step w s
form_step scope form w s = words_step w (form_words scope form s)

abbrev pub meant_step : Scope → Option Meant → Walk → Front → Result Left Stop
meant_step scope (Some (Pseudo form)) w s = form_step scope form w (without (length (word_of s.rest)) s)
meant_step scope (Some (Operation named)) w s = words_step w (words_by scope (Some (Operation named)) s)
meant_step scope None w s = if begins_with 253 s.rest then round_step w.is_last w s else words_step w (words_by scope None s)

abbrev pub less : ℕ → List ℕ → List ℕ
less c text = if begins_with c text then drop 1 text else text

-- a name with a colon right after it
abbrev pub is_label : List ℕ → Bool
is_label text = begins_name text && begins_with 58 (behind_word text)

-- a label has the place of the next word, which is one of memory, and is defined once
abbrev pub takes_label : Walk → ℕ → Bool
takes_label w name = nat_lt w.place (2 ^ 18) && not (is_some (defined_as w.defined name))

-- a name that may be a macro, or that a condition found not defined, is not judged as a symbol
abbrev pub is_barred : Walk → ℕ → Bool
is_barred w name = list_any (nat_eq name) w.callable || list_any (nat_eq name) w.asked

-- `::` and `:!` are as `:`
unfoldable pub label_step : Walk → Front → Result Left Stop
label_step w s =
    if is_barred w (symbol_of (word_of s.rest)) then Err Beyond
    else if takes_label w (symbol_of (word_of s.rest))
    then Ok (defining (symbol_of (word_of s.rest)) (pos w.place) true w, record s { rest = less 33 (less 58 (less 58 (behind_word s.rest))) })
    else Err Wrong

-- a name with `=` after it; `==`, `=:` and `=!` are as `=`
abbrev pub is_assignment : List ℕ → Bool
is_assignment text = begins_name text && begins_with 61 (after_blanks (behind_word text))

abbrev pub assigned_text : List ℕ → List ℕ
assigned_text text = less 33 (less 58 (less 61 (less 61 (after_blanks (behind_word text)))))

abbrev pub is_of_label : Option Defined → Bool
is_of_label None = false
is_of_label (Some symbol) = symbol.is_label

-- if a value is not known by what was defined so far, no values are from there on
abbrev pub trusting : Bool → Walk → Walk
trusting is_early w = record w { is_sure = w.is_sure && is_early }

-- a name is assigned what brackets would hold; no label is assigned
unfoldable pub assignment_step : Scope → Walk → Front → Result Left Stop
assignment_step scope w s = do
  x ← inside_at scope (record s { rest = assigned_text s.rest })
  z ← or_stop Beyond x.0
  word ← as_word z
  if is_barred w (symbol_of (word_of s.rest)) then Err Beyond
      else if is_of_label (defined_as w.defined (symbol_of (word_of s.rest))) then Err Wrong
      else Ok (
        defining (symbol_of (word_of s.rest)) (signed_value word) false
            (trusting (is_read (early_word w (record s { rest = assigned_text s.rest }))) w),
        x.1,
      )

-- a statement's end is the end of the line, or a comment
abbrev pub ended : Result Left Stop → Result Left Stop
ended read = read >>= λ x. if ends_line (after_blanks (x.1).rest) then Ok x else Err Beyond

-- ---- conditions, repetitions and macros

-- the text that is put before the rest, if one is, and what is left
abbrev pub Opened : Type 0
Opened = Option (List ℕ) × Left

abbrev pub plain : Result Left Stop → Result Opened Stop
plain read = read >>= λ x. Ok (None, x)

-- a text that is put before the rest, if one is; all else stays as it was
abbrev pub Texts : Type 0
Texts = Option (List ℕ) × Front

abbrev pub beside : Walk → Result Texts Stop → Result Opened Stop
beside w read = read >>= λ x. Ok (x.0, (w, x.1))

-- after what a condition asks: its text, if it holds
unfoldable pub text_if : Bool → Front → List ℕ → Result Texts Stop
text_if is_true s text = do
  x ← text_next text
  Ok (if is_true then Some (lined x.0) else None, record s { rest = x.1 })

-- whether what is asked for is as it is wanted
abbrev pub as_wanted : Bool → Bool → Bool
as_wanted true is = is
as_wanted false is = not is

abbrev pub holds : Test → ℤ → Bool
holds Equal z = int_eq z (pos 0)
holds Unequal z = not (int_eq z (pos 0))
holds Greater z = int_lt (pos 0) z
holds NotLess z = int_le (pos 0) z
holds Less z = int_lt z (pos 0)
holds NotGreater z = int_le z (pos 0)

-- a number that a word can be written as
abbrev pub within_word : ℤ → Result ℤ Stop
within_word z = if has_word z then Ok z else Err Wrong

-- such a number, which is the same whatever the table has
unfoldable pub sure_number : Walk → Front → Result (ℤ × List ℕ) Stop
sure_number w s =
    elim w.is_sure [
      | true ↦ do
        x ← early_value w s
        z ← or_stop Beyond x.0
        n ← within_word z
        Ok (n, x.1)
      | false ↦ Err Beyond
    ]

-- IFE and its like
unfoldable pub number_step : Test → Walk → Front → Result Texts Stop
number_step test w s = sure_number w s >>= λ x. text_if (holds test x.0) s x.1

-- REPEAT
unfoldable pub repeat_step : Walk → Front → Result Texts Stop
repeat_step w s = do
  x ← sure_number w s
  text ← text_next x.1
  all ← rounds_of (times x.0) (lined text.0)
  Ok (Some all, record s { rest = text.1 })

-- IFB and IFNB
unfoldable pub blank_step : Bool → Front → Result Texts Stop
blank_step wanted s = compared s.rest >>= λ x. text_if (as_wanted wanted (is_spaces x.0)) s x.1

-- IFIDN and IFDIF
unfoldable pub same_step : Bool → Front → Result Texts Stop
same_step wanted s = do
  x ← compared s.rest
  y ← compared (past_comma x.1)
  text_if (as_wanted wanted (bytes_eq x.0 y.0)) s y.1

-- a symbol that is defined so far, or an operation or pseudo-operation
abbrev pub is_known : Walk → List ℕ → Bool
is_known w word = is_some (defined_as w.defined (symbol_of word)) || is_some (built_in word)

abbrev pub asking : List ℕ → Walk → Walk
asking word w = if is_known w word then w else record w { asked = w.asked ++ symbol_of word ∷ [] }

abbrev pub is_asked : Walk → List ℕ → Bool
is_asked w text = w.is_sure && (begins_name text && not (list_any (nat_eq (symbol_of (word_of text))) w.callable))

-- IFDEF and IFNDEF
unfoldable pub defined_step : Bool → Walk → Front → Result Opened Stop
defined_step wanted w s =
    if is_asked w (skipped s).rest
    then beside (asking (word_of (skipped s).rest) w) (text_if (as_wanted wanted (is_known w (word_of (skipped s).rest))) s (behind_word (skipped s).rest))
    else Err Beyond

-- the definition of a macro is kept; it takes the place of one of the same name
abbrev pub keeping : ℕ → List ℕ → Walk → Walk
keeping name text w = record w { macros = insert_entry nat_eq w.macros name (length w.kept); kept = w.kept ++ text }

-- no macro has the name of an operation or a pseudo-operation
abbrev pub takes_macro : Walk → List ℕ → Bool
takes_macro w text =
    begins_name text && (list_any (nat_eq (symbol_of (word_of text))) w.callable && not (is_some (built_in (word_of text))))

-- DEFINE
unfoldable pub define_step : Walk → Front → Result Opened Stop
define_step w s =
    elim (takes_macro w (skipped s).rest) [
      | true ↦ do
        x ← definition_at (behind_word (skipped s).rest)
        Ok (None, (keeping (symbol_of (word_of (skipped s).rest)) x.0 w, record s { rest = x.1 }))
      | false ↦ Err Beyond
    ]

-- COMMENT: a text of any lines between two equal marks
abbrev pub comment_text : List ℕ → Option (List ℕ × List ℕ)
comment_text text = if begins_with 10 text || begins_with 13 text then None else text_from text

unfoldable pub comment_step : Front → Result Texts Stop
comment_step s = do
  x ← or_stop Beyond (comment_text (skipped s).rest)
  if has_marks x.0 then Err Beyond else Ok (None, record s { rest = x.1 })

-- IRP and IRPC
unfoldable pub irp_step : Bool → Front → Result Texts Stop
irp_step by_character s = rounds_at by_character s.rest >>= λ x. Ok (Some x.0, record s { rest = x.1 })

-- a name that may be a macro
abbrev pub is_call : Walk → List ℕ → Bool
is_call w text = begins_name text && list_any (nat_eq (symbol_of (word_of text))) w.callable

-- the call of a macro, which has to be defined; at most 9999 names are made
unfoldable pub call_step : Walk → Front → Result Opened Stop
call_step w s = do
  at ← or_stop Beyond (lookup (nat_eq (symbol_of (word_of s.rest))) w.macros)
  x ← call_at (drop at w.kept) w.made (behind_word s.rest)
  if nat_lt (x.0).1 10000 then Ok (Some (x.0).0, (record w { made = (x.0).1 }, record s { rest = x.1 })) else Err Beyond

-- pseudo-operations after which the line goes on as at the beginning of a statement, and after their names what they do
abbrev pub opens : Form → Bool
opens forms.Repeat = true
opens (forms.If test) = true
opens (forms.IfDefined wanted) = true
opens (forms.IfSame wanted) = true
opens (forms.IfBlank wanted) = true
opens forms.Define = true
opens forms.Comment = true
opens (forms.Irp by_character) = true
opens _ = false

abbrev pub opening_step : Form → Walk → Front → Result Opened Stop
opening_step forms.Repeat w s = beside w (repeat_step w s)
opening_step (forms.If test) w s = beside w (number_step test w s)
opening_step (forms.IfDefined wanted) w s = defined_step wanted w s
opening_step (forms.IfSame wanted) w s = beside w (same_step wanted s)
opening_step (forms.IfBlank wanted) w s = beside w (blank_step wanted s)
opening_step forms.Define w s = define_step w s
opening_step forms.Comment w s = beside w (comment_step s)
opening_step (forms.Irp by_character) w s = beside w (irp_step by_character s)
opening_step _ w s = Err Beyond

abbrev pub is_opening : Option Meant → Bool
is_opening (Some (Pseudo form)) = opens form
is_opening meant = false

unfoldable pub opening_of : Option Meant → Walk → Front → Result Opened Stop
opening_of (Some (Pseudo form)) w s = opening_step form w (without (length (word_of s.rest)) s)
opening_of meant w s = Err Beyond

-- a statement by its first name
unfoldable pub named_step : List (ℕ × ℤ) → Option Meant → Walk → Front → Result Opened Stop
named_step table meant w s =
    elim (is_opening meant) [ true ↦ opening_of meant w s | false ↦ plain (ended (meant_step (scope_of table w) meant w s)) ]

unfoldable pub unlabelled_step : List (ℕ × ℤ) → Walk → Front → Result Opened Stop
unlabelled_step table w s =
    elim (is_assignment s.rest) [
      | true ↦ plain (ended (assignment_step (scope_of table w) w s))
      | false ↦ elim (is_call w s.rest) [ true ↦ call_step w s | false ↦ named_step table (meant_at s.rest) w s ]
    ]

-- a label or a statement, which is next
unfoldable pub step : List (ℕ × ℤ) → Walk → Front → Result Opened Stop
step table w s = elim (is_label s.rest) [ true ↦ plain (label_step w s) | false ↦ unlabelled_step table w s ]

-- ---- sources

-- a text that is put in front: one that ends in a line comes before the end of one
abbrev pub can_enter : List ℕ → Front → Bool
can_enter text s = joins text s.rest && not (mentions false false text)

-- no more than 1000000 characters are put in front
abbrev pub spending : ℕ → Walk → Result Walk Stop
spending size w = if nat_le (w.spent + size) 1000000 then Ok (record w { spent = w.spent + size }) else Err Beyond

-- while the rounds of IRP are read, the last is the one after which none comes, or in which STOPI is
abbrev pub entering : List ℕ → Walk → Walk
entering text w = if begins_with 253 text then record w { is_last = Some false } else w

abbrev pub leaving : List ℕ → Option Bool → Walk → Walk
leaving text before w = if begins_with 253 text then record w { is_last = before } else w

-- such a text is read before the rest
abbrev pub entered : (Walk → Front → Result Left Stop) → Option (List ℕ) → Walk → Front → Result Left Stop
entered deeper None w s = Ok (w, s)
entered deeper (Some text) w s =
    elim (can_enter text s) [
      | true ↦ do
        v ← spending (length text) w
        x ← deeper (entering text v) (record s { rest = text })
        Ok (leaving text w.is_last x.0, record (x.1) { rest = s.rest })
      | false ↦ Err Beyond
    ]

-- the next label or statement with what it puts in front, and whether the text, or the source, is at its end
unfoldable pub next_step : List (ℕ × ℤ) → (Walk → Front → Result Left Stop) → Walk → Front → Result (Bool × Left) Stop
next_step table deeper w s =
    elim (length (across_lines s).rest == 0) [
      | true ↦ Ok (true, (w, across_lines s))
      | false ↦ do
        x ← step table w (across_lines s)
        y ← entered deeper x.0 (x.1).0 (x.1).1
        Ok (is_some (y.0).start, y)
    ]

-- goes on, unless that is the end
abbrev pub going_on : (Walk → Front → Result Left Stop) → Bool → Left → Result Left Stop
going_on more true x = Ok x
going_on more false x = more x.0 x.1

-- all labels and statements of a text, or those up to END, at most n
unfoldable pub walked : (Walk → Front → Result (Bool × Left) Stop) → ℕ → Walk → Front → Result Left Stop
walked next zero w s = Err Beyond
walked next (suc n) w s = next w s >>= λ x. going_on (walked next n) x.0 x.1

-- at most n texts, one put in front while another is read
unfoldable pub read_through : List (ℕ × ℤ) → ℕ → Walk → Front → Result Left Stop
read_through table zero w s = Err Beyond
read_through table (suc depth) w s = walked (next_step table (read_through table depth)) (length s.rest + 1) w s

-- a source has to have END
abbrev pub at_end : Result Left Stop → Result Walk Stop
at_end read = read >>= λ x. if is_some (x.0).start then Ok x.0 else Err Wrong

abbrev pub begun_at : List ℕ → Front
begun_at source = record { rest = source; radix = 8; pool = [] }

-- what a source leaves by a table of symbols and a list of the places of pools; or why it means nothing here
unfoldable pub meaning : List (ℕ × ℤ) → List ℤ → List ℕ → Result Walk Stop
meaning table pools source = do
  callable ← or_stop Beyond (surveyed source)
  at_end (read_through table 40 (begun pools callable) (begun_at source))

-- the table has the last value of each symbol, and no others
abbrev pub has_value : List (ℕ × ℤ) → ℕ × Defined → Bool
has_value table entry = elim (lookup (nat_eq entry.0) table) [ None ↦ false | Some z ↦ int_eq z (entry.1).value ]

abbrev pub has_definition : {X : Type 0} → List (ℕ × Defined) → ℕ × X → Bool
has_definition defined entry = is_some (defined_as defined entry.0)

abbrev pub is_settled : List (ℕ × ℤ) → List (ℕ × Defined) → Bool
is_settled table defined =
    list_all (has_value table) defined && list_all (has_definition defined) table

-- these words at their places, and this start, are what a walk left
pub record IsLeft (table : List (ℕ × ℤ)) (w : Walk) (words : List (ℕ × ℕ)) (start : ℕ) : Type 0 where
  pub settled : is_settled table w.defined ≡ true
  pub same_words : IsPermutation w.words words
  pub start_is : w.start ≡ Some start

-- a source that is judged is not wrong, and has these words and this start
abbrev pub Stands : List (ℕ × ℤ) → Result Walk Stop → List (ℕ × ℕ) → ℕ → Type 0
Stands table (Ok w) words start = IsLeft table w words start
Stands table (Err Wrong) words start = ⊥
Stands table (Err Beyond) words start = Unit {0}

-- by some table and some places of pools a source has these words and this start, or is not judged
abbrev pub IsMeant : List ℕ → List (ℕ × ℕ) → ℕ → Type 0
IsMeant source words start = (table : List (ℕ × ℤ)) × (pools : List ℤ) × Stands table (meaning table pools source) words start
