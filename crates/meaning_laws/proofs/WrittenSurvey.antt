-- What the survey of a source notes in the lines that `macro` writes: nothing.
use Rattle.std.proofs.Common.{◌≡◌, ℕ, ◌<◌, List, [], ◌∷◌, ◌++◌, length, refl, ap, ◌∙◌, arith}
use Rattle.std.proofs.Common.{true, false}
use Rattle.std.specs.Prelude.{codes}
use Rattle.std.specs.List.{list_all}
use Rattle.std.proofs.lemmas.Bool.{and_parts, ne_eqb}
use Rattle.word36.specs.Octal.{octal, octal_text}
use Rattle.word36.specs.Words.{left_half, right_half}
use Rattle.mac_text.specs.Numbers.{is_digit_of}
use Rattle.mac_text.specs.Scan.{begins_with, after_blanks}
use Rattle.meaning_laws.specs.Written.{argument}
use Rattle.meaning_laws.specs.WrittenSource.{number_line, words_line}
use Rattle.meaning_laws.proofs.Written.{digit_between}
use Rattle.meaning_laws.proofs.WrittenWords.{octal_digits, half_some, text_begins, word_line, word_line_is}
use Rattle.meaning_laws.proofs.WrittenNumbers.{within_digits, within_some, after_blank}
use Rattle.meaning_laws.proofs.WrittenNames.{Notes, IsApart, IsQuiet, on_and_on, past, quiet_past, digits_past}

abbrev pub space : IsApart 32
space = record { name = refl; comment = refl }

abbrev comma : IsApart 44
comma = record { name = refl; comment = refl }

abbrev line_end : IsApart 10
line_end = record { name = refl; comment = refl }

-- ---- the line of a word

word_noted : (w : ℕ) (rest : List ℕ) → Notes (32 ∷ word_line w rest) rest
word_noted w rest =
    let right = octal 6 (right_half w) ++ 10 ∷ rest in
    on_and_on (32 ∷ word_line w rest) (word_line w rest) rest (past 32 (word_line w rest) space)
    (on_and_on (word_line w rest) (44 ∷ right) rest
    (digits_past (octal 6 (left_half w)) 44 (44 ∷ right) (half_some (left_half w)) (octal_digits 6 (left_half w)) comma refl)
    (on_and_on (44 ∷ right) right rest (past 44 right comma)
    (digits_past (octal 6 (right_half w)) 10 rest (half_some (right_half w)) (octal_digits 6 (right_half w)) line_end refl)))

-- ---- a name and a number

no_digit : (ds tail : List ℕ) → 0 < length ds → list_all (is_digit_of 8) ds ≡ true → begins_with 61 (ds ++ tail) ≡ false
no_digit [] tail some h = absurd (omega arith)
no_digit (d ∷ ds) tail some h =
    let within = digit_between d (and_parts (is_digit_of 8 d) (list_all (is_digit_of 8) ds) h).0 in
    ne_eqb d 61 (λ e. omega (arith, within.1))

-- no `=` is before the number
pub no_equals : (n : ℕ) (rest : List ℕ) → begins_with 61 (after_blanks (argument n rest)) ≡ false
no_equals n rest =
    let digits = within_digits 22 n in
    let some = within_some 21 n in
    ap (begins_with 61) (after_blank (octal_text n ++ 10 ∷ rest) ∙ (text_begins (octal_text n) (10 ∷ rest) some digits).starts)
    ∙ no_digit (octal_text n) (10 ∷ rest) some digits

argument_noted : (n : ℕ) (rest : List ℕ) → Notes (octal_text n ++ 10 ∷ rest) rest
argument_noted n rest = digits_past (octal_text n) 10 rest (within_some 21 n) (within_digits 22 n) line_end refl

quiet_loc : (n : ℕ) (rest : List ℕ) → IsQuiet (codes "LOC" ++ argument n rest)
quiet_loc n rest = record { far = rw (no_equals n rest) refl; define = refl }

quiet_block : (n : ℕ) (rest : List ℕ) → IsQuiet (codes "BLOCK" ++ argument n rest)
quiet_block n rest = record { far = rw (no_equals n rest) refl; define = refl }

quiet_end : (n : ℕ) (rest : List ℕ) → IsQuiet (codes "END" ++ argument n rest)
quiet_end n rest = record { far = rw (no_equals n rest) refl; define = refl }

number_noted : (name : List ℕ) (n : ℕ) (rest : List ℕ) → Notes (name ++ argument n rest) (octal_text n ++ 10 ∷ rest)
    → Notes (number_line name n rest) rest
number_noted name n rest first =
    on_and_on (number_line name n rest) (name ++ argument n rest) rest (past 32 (name ++ argument n rest) space)
    (on_and_on (name ++ argument n rest) (octal_text n ++ 10 ∷ rest) rest first (argument_noted n rest))

pub loc_noted : (n : ℕ) (rest : List ℕ) → Notes (number_line (codes "LOC") n rest) rest
loc_noted n rest =
    number_noted (codes "LOC") n rest (quiet_past (codes "LOC") 32 (octal_text n ++ 10 ∷ rest) (omega arith) refl space (quiet_loc n rest))

pub block_noted : (n : ℕ) (rest : List ℕ) → Notes (number_line (codes "BLOCK") n rest) rest
block_noted n rest =
    number_noted (codes "BLOCK") n rest
    (quiet_past (codes "BLOCK") 32 (octal_text n ++ 10 ∷ rest) (omega arith) refl space (quiet_block n rest))

pub end_noted : (n : ℕ) (rest : List ℕ) → Notes (number_line (codes "END") n rest) rest
end_noted n rest =
    number_noted (codes "END") n rest (quiet_past (codes "END") 32 (octal_text n ++ 10 ∷ rest) (omega arith) refl space (quiet_end n rest))

pub words_noted : (words rest : List ℕ) → Notes (words_line words rest) rest
words_noted [] rest = past 10 rest line_end
words_noted (w ∷ []) rest = rw (word_line_is w rest) (word_noted w rest)
words_noted (w ∷ v ∷ words) rest = block_noted (length (w ∷ v ∷ words)) rest
