-- The lines that `macro` writes are in the grammar of the assembler.
use Rattle.std.proofs.Common.{◌≡◌, ◌∙◌, sym, ap, ℕ, zero, suc, ◌-◌, ◌==◌, Bool, true, false, ◌||◌, ◌&&◌, not, List, [], ◌∷◌, ◌++◌}
use Rattle.std.proofs.Common.{length, map, Option, Some, None, Ok, refl, arith, append_assoc, append-nil}
use Rattle.std.specs.Prelude.{codes, slice_index}
use Rattle.std.specs.List.{list_all}
use Rattle.std.proofs.lemmas.Bool.{and_parts}
use Rattle.std.proofs.lemmas.Bool.Decides.{nat_tests}
use Rattle.std.proofs.lemmas.List.Folds.{list_all-append}
use Rattle.word36.specs.Octal.{octal, octal_text}
use Rattle.word36.specs.Words.{left_half, right_half}
use Rattle.whole_numbers.specs.Numerals.{digits_value}
use Rattle.mac_text.specs.Characters.{is_digit, is_name_character}
use Rattle.mac_text.specs.Names.{symbol_of, is_name}
use Rattle.mac_text.specs.Keywords.{form_of}
use Rattle.mac_text.specs.Lines.{is_ascii, is_end, radix_after, program_of}
use Rattle.mac_text.specs.Written
use Rattle.mac_text.specs.Written.{Blanks, TermText, ExpressionText, StatementText, LiteralText, LineText, DigitsText}
use Rattle.mac_text.specs.Written.{IsStatement, IsStatementOr, literal_text, statement_before, statement_given, statement_literals}
use Rattle.mac_text.specs.Written.{line_text, line_given}
use Rattle.mac_text.specs.Written.{more_before, labels_before, more_literals, more_given}
use Rattle.mac_text.specs.WrittenSource.{SourceLine, Feed, GoOn, is_line_character, end_before, source_line_text, source_line_given}
use Rattle.mac_text.specs.WrittenSource.{source_before, source_given, radix_behind}
use Rattle.mac_text.specs.declared.syntax.Line.{Line}
use Rattle.mac_text.specs.declared.syntax.Statement.{Statement}
use Rattle.mac_text.specs.declared.syntax.Data.TheVariants as data_of
use Rattle.mac_text.specs.declared.syntax.Statement.TheVariants as statements
use Rattle.mac_text.specs.Printed.{number_alone}
use Rattle.mac_text.proofs.NumberTexts.{is_printed, word_is_printed, octal_is_printed}
use Rattle.mac_text.proofs.WrittenSources.{ended_source_read}
use Rattle.mac_source.proofs.LabelTexts.{read_number, octal_digits, octal_some, all_so}
use Rattle.mac_source.proofs.LabelTexts.{fixed_digits as half_digits}
use Rattle.mac_source.proofs.Given.{loc_if, loc_given, end_given}
use Rattle.mac_source.proofs.WrittenWords.{loc_source, loc_stands, end_source, end_stands}
use Rattle.macro_expressions.specs.Reading.{begins_name}
use Rattle.meaning_laws.specs.WrittenSource.{Piece, IsLabel, number_line, place_line, more_labels, labels_text, words_line, after}
use Rattle.meaning_laws.specs.WrittenSource.{lines_text}
use Rattle.meaning_laws.proofs.WrittenNames.{digits_are_names}
use Rattle.meaning_laws.proofs.WrittenWords.{half_some}
use Rattle.meaning_laws.proofs.WrittenPieces.{AreNames, AreNamed}

-- ---- parts

abbrev none : Blanks
none = record { text = []; blank = refl }

abbrev one : Blanks
one = record { text = 32 ∷ []; blank = refl }

abbrev Literals : Type 0
Literals = LiteralText 8

abbrev number_term : ℕ → TermText 8 Literals
number_term n = Written.Number (record { text = octal_text n; some = octal_some 21 n; digits = octal_digits 22 n })

abbrev half_term : ℕ → TermText 8 Literals
half_term n = Written.Number (record { text = octal 6 n; some = half_some n; digits = half_digits 6 n })

abbrev expression : Blanks → TermText 8 Literals → ExpressionText 8 Literals
expression before term = record { before = before; sign = None; term = term; more = [] }

abbrev halves_statement : ℕ → StatementText 8 Literals
halves_statement w =
    Written.Halves
    (record { left = expression none (half_term (left_half w)); behind = none; right = expression none (half_term (right_half w)) })

abbrev block_statement : ℕ → StatementText 8 Literals
block_statement n =
    Written.Formed (record { text = codes "BLOCK"; characters = refl; names = refl }) (Written.Block (expression one (number_term n)))

-- ---- labels

name_case : (c d dot : Bool) → (c && not (d || dot)) ≡ true → (not d && not dot) ≡ true
name_case true false false h = refl
name_case true false true h = absurd (cc)
name_case true true dot h = absurd (cc)
name_case false d dot h = absurd (cc)

long_case : (c d more : Bool) → (c && not (d || more)) ≡ true → not d ≡ true
long_case true false more h = refl
long_case true true more h = absurd (cc)
long_case false d more h = absurd (cc)

is_name_by : (name : List ℕ) → begins_name name ≡ true → is_name name ≡ true
is_name_by [] h = absurd (cc)
is_name_by (c ∷ []) h = name_case (is_name_character c) (is_digit c) (c == 46) h
is_name_by (c ∷ d ∷ cs) h = long_case (is_name_character c) (is_digit c) (c == 46 && not (is_name_character d)) h

abbrev label_of : Blanks → (place : ℕ) → (name : List ℕ) → IsLabel place name → Written.LabelText
label_of before place name is =
    record { before = before; name = record { text = name; characters = is.characters; names = is_name_by name is.begins } }

abbrev spaced_labels : (place : ℕ) (names : List (List ℕ)) → AreNames place names → List Written.LabelText
spaced_labels place [] are = []
spaced_labels place (name ∷ names) are = label_of one place name are.0 ∷ spaced_labels place names are.1

abbrev labels_of : (place : ℕ) (names : List (List ℕ)) → AreNames place names → List Written.LabelText
labels_of place [] are = []
labels_of place (name ∷ names) are = label_of none place name are.0 ∷ spaced_labels place names are.1

spaced_before : (place : ℕ) (names : List (List ℕ)) (are : AreNames place names) (text rest : List ℕ)
    → labels_before (spaced_labels place names are) text ++ rest ≡ more_labels names (text ++ rest)
unfolding labels_before
spaced_before place [] are text rest = refl
spaced_before place (name ∷ names) are text rest =
    ap (λ t. 32 ∷ t) (append_assoc name (58 ∷ labels_before (spaced_labels place names are.1) text) rest
    ∙ ap (λ t. name ++ 58 ∷ t) (spaced_before place names are.1 text rest))

labels_are : (place : ℕ) (names : List (List ℕ)) (are : AreNames place names) (text rest : List ℕ)
    → labels_before (labels_of place names are) text ++ rest ≡ labels_text names (text ++ rest)
unfolding labels_before
labels_are place [] are text rest = refl
labels_are place (name ∷ names) are text rest =
    append_assoc name (58 ∷ labels_before (spaced_labels place names are.1) text) rest
    ∙ ap (λ t. name ++ 58 ∷ t) (spaced_before place names are.1 text rest)

spaced_symbols : (place : ℕ) (names : List (List ℕ)) (are : AreNames place names)
    → map (λ l. symbol_of l.name.text) (spaced_labels place names are) ≡ map symbol_of names
spaced_symbols place [] are = refl
spaced_symbols place (name ∷ names) are = ap (λ l. symbol_of name ∷ l) (spaced_symbols place names are.1)

labels_symbols : (place : ℕ) (names : List (List ℕ)) (are : AreNames place names)
    → map (λ l. symbol_of l.name.text) (labels_of place names are) ≡ map symbol_of names
labels_symbols place [] are = refl
labels_symbols place (name ∷ names) are = ap (λ l. symbol_of name ∷ l) (spaced_symbols place names are.1)

-- ---- the line of a piece

abbrev statement_of : List ℕ → Option (StatementText 8 Literals)
statement_of [] = None
statement_of (w ∷ []) = Some (halves_statement w)
statement_of (w ∷ v ∷ ws) = Some (block_statement (length (w ∷ v ∷ ws)))

abbrev before_words : List ℕ → Blanks
before_words [] = none
before_words (w ∷ ws) = one

abbrev line_of : (p : Piece) → AreNames p.place p.labels → LineText 8
line_of p are =
    record { labels = labels_of p.place p.labels are; before = before_words p.words; statement = statement_of p.words; behind = none; comment = None }

-- the part of a line after its labels
abbrev words_part : List ℕ → List ℕ
words_part words = (before_words words).text ++ Written.before_if (statement_before literal_text) (statement_of words) []

words_part_is : (words rest : List ℕ) → words_part words ++ 10 ∷ rest ≡ words_line words rest
unfolding more_before octal
words_part_is [] rest = refl
words_part_is (w ∷ []) rest = simp append_assoc
words_part_is (w ∷ v ∷ ws) rest = simp append_assoc

line_text_is : (p : Piece) (are : AreNames p.place p.labels) (rest : List ℕ)
    → line_text (line_of p are) ++ 10 ∷ rest ≡ labels_text p.labels (words_line p.words rest)
line_text_is p are rest =
    labels_are p.place p.labels are (words_part p.words) (10 ∷ rest) ∙ ap (labels_text p.labels) (words_part_is p.words rest)

legal_is : (words : List ℕ) → IsStatementOr (statement_of words)
unfolding form_of
legal_is [] = tt
legal_is (w ∷ []) = refl
legal_is (w ∷ v ∷ ws) = (refl, refl)

-- the numbers of the halves, as they are read
abbrev pub half_read : ℕ → ℕ
half_read n = digits_value 8 (octal 6 n)

abbrev pub statement_for : List ℕ → Option Statement
statement_for [] = None
statement_for (w ∷ []) =
    Some (statements.Data (data_of.Halves (number_alone (half_read (left_half w))) (number_alone (half_read (right_half w)))))
statement_for (w ∷ v ∷ ws) = Some (statements.Data (data_of.Block (number_alone (read_number (length (w ∷ v ∷ ws))))))

abbrev pub piece_given : Piece → Line
piece_given p = record { labels = map symbol_of p.labels; statement = statement_for p.words; literals = [] }

line_means : (p : Piece) (are : AreNames p.place p.labels) (words : List ℕ)
    → line_given
    (record { labels = labels_of p.place p.labels are; before = before_words words; statement = statement_of words; behind = none; comment = None })
    ≡ record { labels = map symbol_of p.labels; statement = statement_for words; literals = [] }
unfolding more_given more_literals
line_means p are [] = ap (λ ls. record { labels = ls; statement = None; literals = [] }) (labels_symbols p.place p.labels are)
line_means p are (w ∷ []) =
    ap (λ ls. record { labels = ls; statement = statement_for (w ∷ []); literals = [] }) (labels_symbols p.place p.labels are)
line_means p are (w ∷ v ∷ ws) =
    ap (λ ls. record { labels = ls; statement = statement_for (w ∷ v ∷ ws); literals = [] }) (labels_symbols p.place p.labels are)

-- ---- characters

both : (xs ys : List ℕ) → list_all is_printed xs ≡ true → list_all is_printed ys ≡ true → list_all is_printed (xs ++ ys) ≡ true
both xs ys h k = list_all-append is_printed xs ys ∙ rw (h, k) refl

behind : (c : ℕ) (xs : List ℕ) → is_printed c ≡ true → list_all is_printed xs ≡ true → list_all is_printed (c ∷ xs) ≡ true
behind c xs h k = rw (h, k) refl

half_printed : (n : ℕ) → list_all is_printed (octal 6 n) ≡ true
half_printed n = word_is_printed (octal 6 n) (digits_are_names (octal 6 n) (half_digits 6 n))

words_printed : (words : List ℕ) → list_all is_printed (words_part words) ≡ true
unfolding more_before
words_printed [] = refl
words_printed (w ∷ []) =
    let right = octal 6 (right_half w) ++ [] in
    behind 32 (octal 6 (left_half w) ++ 44 ∷ 44 ∷ right) refl
    (both (octal 6 (left_half w)) (44 ∷ 44 ∷ right) (half_printed (left_half w))
    (behind 44 (44 ∷ right) refl (behind 44 right refl (both (octal 6 (right_half w)) [] (half_printed (right_half w)) refl))))
words_printed (w ∷ v ∷ ws) =
    let n = length (w ∷ v ∷ ws) in
    both (codes " BLOCK ") (octal_text n ++ []) refl (both (octal_text n) [] (octal_is_printed n) refl)

spaced_printed : (place : ℕ) (names : List (List ℕ)) (are : AreNames place names) (text : List ℕ) → list_all is_printed text ≡ true
    → list_all is_printed (labels_before (spaced_labels place names are) text) ≡ true
unfolding labels_before
spaced_printed place [] are text h = h
spaced_printed place (name ∷ names) are text h =
    let more = labels_before (spaced_labels place names are.1) text in
    behind 32 (name ++ 58 ∷ more) refl
    (both name (58 ∷ more) (word_is_printed name are.0.characters) (behind 58 more refl (spaced_printed place names are.1 text h)))

labels_printed : (place : ℕ) (names : List (List ℕ)) (are : AreNames place names) (text : List ℕ) → list_all is_printed text ≡ true
    → list_all is_printed (labels_before (labels_of place names are) text) ≡ true
unfolding labels_before
labels_printed place [] are text h = h
labels_printed place (name ∷ names) are text h =
    let more = labels_before (spaced_labels place names are.1) text in
    both name (58 ∷ more) (word_is_printed name are.0.characters) (behind 58 more refl (spaced_printed place names are.1 text h))

ascii_one : (c : ℕ) → is_printed c ≡ true → is_ascii c ≡ true
ascii_one c h = grind (arith, nat_tests)

no_feed : (c : ℕ) → is_printed c ≡ true → is_line_character c ≡ true
no_feed c h = grind (arith, nat_tests)

no_return : (c : ℕ) → is_printed c ≡ true → (c == 13) ≡ false
no_return c h = grind (arith, nat_tests)

no_return_at : (text : List ℕ) (k : ℕ) → list_all is_printed text ≡ true → (slice_index text k == 13) ≡ false
no_return_at [] k h = refl
no_return_at (c ∷ cs) zero h = no_return c (and_parts (is_printed c) (list_all is_printed cs) h).0
no_return_at (c ∷ cs) (suc k) h = no_return_at cs k (and_parts (is_printed c) (list_all is_printed cs) h).1

-- ---- lines with their ends

-- a line with its end, before the rest, and what it is
record IsWritten (l : SourceLine) (text : List ℕ → List ℕ) (given : Line) : Type 0 where
  radix : l.radix ≡ 8
  before : (rest : List ℕ) → source_line_text l ++ end_before l.end rest ≡ text rest
  means : source_line_given l ≡ given

piece_source : (p : Piece) → AreNames p.place p.labels → SourceLine
piece_source p are =
    let printed = labels_printed p.place p.labels are (words_part p.words) (words_printed p.words) in
    let text = line_text (line_of p are) in
    record {
      radix = 8;
      line = line_of p are;
      end = Feed;
      legal = record { statement = legal_is p.words; ascii = all_so is_printed is_ascii ascii_one text printed };
      one = record
          { characters = all_so is_printed is_line_character no_feed text printed; no_return = no_return_at text (length text - 1) printed };
    }

piece_written : (p : Piece) (are : AreNames p.place p.labels)
    → IsWritten (piece_source p are) (λ rest. labels_text p.labels (words_line p.words rest)) (piece_given p)
unfolding piece_source
piece_written p are = record { radix = refl; before = line_text_is p are; means = line_means p are p.words }

loc_written : (n : ℕ) → IsWritten (loc_source n) (number_line (codes "LOC") n) (loc_given n)
loc_written n =
    let s = loc_stands n in
    record {
      radix = s.radix;
      before = λ rest. s.before rest ∙ ap (λ t. codes " LOC " ++ t)
          (append_assoc (octal_text n) (10 ∷ []) rest);
      means = s.means;
    }

-- ---- all lines

abbrev pub unmarked : ℕ → Bool
unmarked place = false

abbrev pub lines_given : ℕ → ℕ → List Piece → List Line
lines_given start next [] = end_given unmarked start ∷ []
lines_given start next (p ∷ ps) = loc_if (p.place == next) (loc_given p.place) (piece_given p ∷ lines_given start (after p) ps)

abbrev lines_source : (ps : List Piece) → AreNamed ps → ℕ → List SourceLine
lines_source [] named next = []
lines_source (p ∷ ps) named next =
    loc_if (p.place == next) (loc_source p.place) (piece_source p named.0 ∷ lines_source ps named.1 (after p))

-- lines before a last one: their text before a rest, what they are with the last, and that they are in octal and go on
record AreLines (ls : List SourceLine) (rest text : List ℕ) (given : List Line) (last : Line) : Type 0 where
  text_is : source_before ls rest ≡ text
  given_is : source_given ls ++ last ∷ [] ≡ given
  goes : GoOn 8 ls
  kept : radix_behind 8 ls ≡ 8

one_more : (l : SourceLine) (text_of : List ℕ → List ℕ) (g : Line) (ls : List SourceLine) (rest text : List ℕ) (given : List Line)
    (last : Line)
    → IsWritten l text_of g → radix_after g 8 ≡ 8 → is_end g ≡ false → AreLines ls rest text given last
    → AreLines (l ∷ ls) rest (text_of text) (g ∷ given) last
unfolding source_before GoOn radix_behind
one_more l text_of g ls rest text given last is radix on later =
    let same : radix_after (source_line_given l) 8 ≡ 8 = ap (λ x. radix_after x 8) is.means ∙ radix in
    record {
      text_is = is.before (source_before ls rest) ∙ ap text_of later.text_is;
      given_is = ap (λ x. x ∷ (source_given ls ++ last ∷ [])) is.means ∙ ap (λ xs. g ∷ xs) later.given_is;
      goes = (is.radix, ap is_end is.means ∙ on, rw same later.goes);
      kept = ap (λ r. radix_behind r ls) same ∙ later.kept;
    }

loc_more : (b : Bool) (n : ℕ) (ls : List SourceLine) (rest text : List ℕ) (given : List Line) (last : Line)
    → AreLines ls rest text given last
    → AreLines (loc_if b (loc_source n) ls) rest (place_line b n text) (loc_if b (loc_given n) given) last
loc_more true n ls rest text given last are = are
loc_more false n ls rest text given last are =
    one_more (loc_source n) (number_line (codes "LOC") n) (loc_given n) ls rest text given last (loc_written n) refl refl are

no_radix : (words : List ℕ) (labels : List ℕ)
    → radix_after (record { labels = labels; statement = statement_for words; literals = [] }) 8 ≡ 8
no_radix [] labels = refl
no_radix (w ∷ []) labels = refl
no_radix (w ∷ v ∷ ws) labels = refl

no_end : (words : List ℕ) (labels : List ℕ) → is_end (record { labels = labels; statement = statement_for words; literals = [] }) ≡ false
no_end [] labels = refl
no_end (w ∷ []) labels = refl
no_end (w ∷ v ∷ ws) labels = refl

lines_are : (start next : ℕ) (ps : List Piece) (named : AreNamed ps) (rest : List ℕ) → rest ≡ number_line (codes "END") start []
    → AreLines (lines_source ps named next) rest (lines_text start next ps) (lines_given start next ps) (end_given unmarked start)
unfolding source_before GoOn radix_behind
lines_are start next [] named rest e = record { text_is = e; given_is = refl; goes = tt; kept = refl }
lines_are start next (p ∷ ps) named rest e =
    let later = lines_source ps named.1 (after p) in
    let text = lines_text start (after p) ps in
    let given = lines_given start (after p) ps in
    loc_more (p.place == next) p.place (piece_source p named.0 ∷ later) rest (labels_text p.labels (words_line p.words text))
    (piece_given p ∷ given)
    (end_given unmarked start)
    (one_more (piece_source p named.0) (λ t. labels_text p.labels (words_line p.words t)) (piece_given p) later rest text given
    (end_given unmarked start)
    (piece_written p named.0) (no_radix p.words (map symbol_of p.labels)) (no_end p.words (map symbol_of p.labels))
    (lines_are start (after p) ps named.1 rest e))

-- the lines of pieces are read as what they are
pub lines_parsed : (start next : ℕ) (ps : List Piece) → AreNamed ps → program_of (lines_text start next ps) ≡ Ok (lines_given start next ps)
lines_parsed start next ps named =
    let last = end_source unmarked start in
    let stands = end_stands unmarked start in
    let ending = source_line_text last ++ end_before last.end [] in
    let ends : is_end (source_line_given last) ≡ true = ap is_end stands.means in
    let texts : ending ≡ number_line (codes "END") start [] = stands.before [] ∙ append-nil (number_line (codes "END") start []) in
    let ls = lines_source ps named next in
    let are = lines_are start next ps named ending texts in
    ap program_of (sym are.text_is)
    ∙ (ended_source_read ls last [] are.goes (stands.radix ∙ sym are.kept) ends
    ∙ ap Ok (ap (λ l. source_given ls ++ l ∷ []) stands.means ∙ are.given_is))
