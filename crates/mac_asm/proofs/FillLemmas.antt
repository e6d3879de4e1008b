-- The words of all lines put into cells, and the image that comes of them.
use Rattle.std.proofs.Common.{◌≡◌, ℕ, ◌+◌, ◌<◌, ◌≤◌, List, [], ◌∷◌, length, take, drop, drop_of_length-le, get_or, min, Option, Some}
use Rattle.std.proofs.Common.{None, Result, Ok, Err, Bool, true, false, cond, refl, sym, ap, ◌∙◌, inl, inr, arith}
use Rattle.std.specs.Prelude.{option_map, is_some, ◌&&◌, slice_get, unwrap_or}
use Rattle.std.specs.List.{last_or}
use Rattle.std.proofs.lemmas.List.{drop_more, take_all}
use Rattle.std.proofs.lemmas.Bool.{cases_lt}
use Rattle.mac_text.specs.declared.syntax.Line.{Line}
use Rattle.mac_layout.specs.declared.error.AsmCode.TheVariants.{UnknownName, DoesNotFit}
use Rattle.mac_layout.specs.Addresses.{Labels, Placed, names_at, first_address}
use Rattle.mac_asm.specs.Assembly.{start_by, start_from, start_at}
use Rattle.mac_layout.specs.Faults.{Fault, unless_fault}
use Rattle.mac_asm.specs.Outcome.{line_words, has_start, is_line_known, value_code, and_words, words_given, lines_with}
use Rattle.mac_asm.specs.Filled.{Cells, put_all, PutsLine, filled_with, filled}
use Rattle.mac_asm.proofs.LineLemmas.{put_more, address_next, address_none}

-- the start that the last of these lines names
abbrev pub ends : ℕ → List Placed → ℕ
ends start [] = start
ends start (at ∷ later) = ends (unwrap_or (start_by at.names at.line.statement) first_address) later

-- what is to come of lines where words were put before
abbrev pub filled_from : Cells → ℕ → ℕ → List Placed → Result (Cells × ℕ) Fault
filled_from cells start number lines = filled_with cells (ends start lines) (words_given number lines)

ends_is : (start : ℕ) (before : Option Placed) (lines : List Placed) → start ≡ unwrap_or (start_from before) first_address
    → ends start lines ≡ unwrap_or (start_from (last_or before lines)) first_address
ends_is start before [] is = is
ends_is start before (at ∷ later) is = ends_is (unwrap_or (start_by at.names at.line.statement) first_address) (Some at) later refl

pub filled_begins : (cells : Cells) (lines : List Placed) → filled_from cells first_address 1 lines ≡ filled cells lines
unfolding start_at
filled_begins cells lines = ap (λ start. filled_with cells start (words_given 1 lines)) (ends_is first_address None lines refl)

none_given : (number : ℕ) → words_given number [] ≡ Ok []
unfolding words_given
none_given number = refl

pub filled_ends : (cells : Cells) (start number : ℕ) → filled_from cells start number [] ≡ Ok (cells, start)
filled_ends cells start number = ap (filled_with cells start) (none_given number)

given_more : (number : ℕ) (at : Placed) (later : List Placed)
    → words_given number (at ∷ later)
    ≡ unless_fault number (value_code at) (and_words (unwrap_or (line_words at) []) (words_given (number + 1) later))
unfolding words_given
given_more number at later = refl

code_none : (at : Placed) → (is_some (line_words at) && has_start at.names at.line.statement) ≡ true → value_code at ≡ None
unfolding value_code
code_none at is = ap (λ b. cond b None (Some (cond (is_line_known at) DoesNotFit UnknownName))) is

code_some : (at : Placed) → (is_some (line_words at) && has_start at.names at.line.statement) ≡ false
    → value_code at ≡ Some (cond (is_line_known at) DoesNotFit UnknownName)
unfolding value_code
code_some at is = ap (λ b. cond b None (Some (cond (is_line_known at) DoesNotFit UnknownName))) is

put_first : (cells : Cells) (start : ℕ) (words : List (ℕ × ℕ)) (given : Result (List (ℕ × ℕ)) Fault)
    → filled_with cells start (and_words words given) ≡ filled_with (put_all cells words) start given
put_first cells start words (Ok more) = ap (λ c. Ok (c, start)) (put_more cells words more)
put_first cells start words (Err fault) = refl

some_words : (cells new : Cells) (words : Option (List (ℕ × ℕ))) → option_map (put_all cells) words ≡ Some new
    → (is_some words ≡ true) × (put_all cells (unwrap_or words []) ≡ new)
some_words cells new None is = cc
some_words cells new (Some words) is = (refl, cc)

starts_there : (b : Bool) (n start : ℕ) → cond b (Some n) None ≡ Some start → (b ≡ true) × (n ≡ start)
starts_there true n start is = (refl, cc)
starts_there false n start is = cc

-- one more line, whose words are put
pub filled_more : (cells new : Cells) (before start number : ℕ) (at : Placed) (later : List Placed)
    → PutsLine (Some start) cells new at
    → filled_from cells before number (at ∷ later) ≡ filled_from new start (number + 1) later
filled_more cells new before start number at later puts =
    let words = some_words cells new (line_words at) puts.0 in
    let begins = starts_there (has_start at.names at.line.statement) (unwrap_or (start_by at.names at.line.statement) first_address) start puts.1 in
    let right : (is_some (line_words at) && has_start at.names at.line.statement) ≡ true =
    ap (λ b. b && has_start at.names at.line.statement) words.0 ∙ begins.0 in
    let rest = words_given (number + 1) later in
    let then = ends (unwrap_or (start_by at.names at.line.statement) first_address) later in
    ap (filled_with cells then)
    (given_more number at later
    ∙ ap (λ code. unless_fault number code (and_words (unwrap_or (line_words at) []) rest)) (code_none at right))
    ∙ put_first cells then (unwrap_or (line_words at) []) rest
    ∙ ap (λ c. filled_with c then rest) words.1
    ∙ ap (λ s. filled_with new (ends s later) rest) begins.1

-- a line at fault
pub filled_fails : (cells : Cells) (before number : ℕ) (at : Placed) (later : List Placed)
    → (is_some (line_words at) && has_start at.names at.line.statement) ≡ false
    → filled_from cells before number (at ∷ later) ≡ Err (record { line = number; code = cond (is_line_known at) DoesNotFit UnknownName })
filled_fails cells before number at later wrong =
    let then = ends (unwrap_or (start_by at.names at.line.statement) first_address) later in
    ap (filled_with cells then)
    (given_more number at later
    ∙ ap (λ code. unless_fault number code (and_words (unwrap_or (line_words at) []) (words_given (number + 1) later)))
    (code_some at wrong))

-- the lines with their addresses
with_more : (labels : Labels) (address : ℕ) (addresses literals : List ℕ) (line : Line) (lines : List Line)
    → lines_with labels (address ∷ addresses) literals (line ∷ lines)
    ≡ record { names = names_at labels address (take (length line.literals) literals); line = line }
    ∷ lines_with labels addresses (drop (length line.literals) literals) lines
unfolding lines_with
with_more labels address addresses literals line lines = refl

with_no_addresses : (labels : Labels) (literals : List ℕ) (lines : List Line) → lines_with labels [] literals lines ≡ []
unfolding lines_with
with_no_addresses labels literals lines = refl

with_no_lines : (labels : Labels) (addresses literals : List ℕ) → lines_with labels addresses literals [] ≡ []
unfolding lines_with
with_no_lines labels [] literals = refl
with_no_lines labels (address ∷ addresses) literals = refl

take_least : (n : ℕ) (xs : List ℕ) → take (min (length xs) n) xs ≡ take n xs
take_least n xs = elim (cases_lt (length xs) n) [
  | inl lt ↦ let k : min (length xs) n ≡ length xs = omega arith in let le : length xs ≤ length xs = omega arith in let all : length xs ≤ n = omega arith in
      ap (λ m. take m xs) k ∙ take_all (length xs) xs le ∙ sym (take_all n xs all)
  | inr ge ↦ let k : min (length xs) n ≡ n = omega arith in ap (λ m. take m xs) k
]

drop_least : (n : ℕ) (xs : List ℕ) → drop (min (length xs) n) xs ≡ drop n xs
drop_least n xs = elim (cases_lt (length xs) n) [
  | inl lt ↦ let k : min (length xs) n ≡ length xs = omega arith in let le : length xs ≤ length xs = omega arith in let all : length xs ≤ n = omega arith in
      ap (λ m. drop m xs) k ∙ drop_of_length-le xs le ∙ sym (drop_of_length-le xs all)
  | inr ge ↦ let k : min (length xs) n ≡ n = omega arith in ap (λ m. drop m xs) k
]

-- the line at i with its share of the literals, and those behind it
pub lines_next : (labels : Labels) (addresses literals : List ℕ) (lines : List Line) (i address split : ℕ) (line : Line) (own rest : List ℕ)
    → i < length lines → line ≡ get_or lines i line → slice_get addresses i ≡ Some address
    → split ≡ min (length literals) (length line.literals) → own ≡ take split literals
    → rest ≡ drop split literals
    → lines_with labels (drop i addresses) literals (drop i lines)
    ≡ record { names = names_at labels address own; line = line }
    ∷ lines_with labels (drop (i + 1) addresses) rest (drop (i + 1) lines)
lines_next labels addresses literals lines i address split line own rest lt is at mid first last =
    let own_is : take (length line.literals) literals ≡ own = sym (first ∙ ap (λ m. take m literals) mid ∙ take_least (length line.literals) literals) in
    let rest_is : drop (length line.literals) literals ≡ rest = sym (last ∙ ap (λ m. drop m literals) mid ∙ drop_least (length line.literals) literals) in
    ap (λ ps. lines_with labels ps literals (drop i lines)) (address_next addresses i address at)
    ∙ ap (λ ls. lines_with labels (address ∷ drop (i + 1) addresses) literals ls) (drop_more lines i line lt ∙ ap (λ l. l ∷ drop (i + 1) lines) (sym is))
    ∙ with_more labels address (drop (i + 1) addresses) literals line (drop (i + 1) lines)
    ∙ ap
    (λ o. record { names = names_at labels address o; line = line }
    ∷ lines_with labels (drop (i + 1) addresses) (drop (length line.literals) literals) (drop (i + 1) lines)) own_is
    ∙ ap (λ r. record { names = names_at labels address own; line = line } ∷ lines_with labels (drop (i + 1) addresses) r (drop (i + 1) lines)) rest_is

pub lines_done : (labels : Labels) (addresses literals : List ℕ) (lines : List Line) (i : ℕ) → length lines ≤ i
    → lines_with labels (drop i addresses) literals (drop i lines) ≡ []
lines_done labels addresses literals lines i done =
    ap (λ ls. lines_with labels (drop i addresses) literals ls) (drop_of_length-le lines done)
    ∙ with_no_lines labels (drop i addresses) literals

pub addresses_done : (labels : Labels) (addresses literals : List ℕ) (lines : List Line) (i : ℕ) → slice_get addresses i ≡ None
    → lines_with labels (drop i addresses) literals (drop i lines) ≡ []
addresses_done labels addresses literals lines i none =
    ap (λ ps. lines_with labels ps literals (drop i lines)) (address_none addresses i none)
    ∙ with_no_addresses labels literals (drop i lines)
