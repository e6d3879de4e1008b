-- The source that `macro` writes for an image, as the definitions of what a source means read it.
use Rattle.std.proofs.Common.{◌≡◌, ℕ, ℤ, suc, ◌+◌, ◌^◌, ◌<◌, ◌≤◌, ◌==◌, List, [], ◌∷◌, ◌++◌, Some, None, Ok}
use Rattle.std.proofs.Common.{Bool, true, false, length, length-append, map, replicate, refl, sym, subst, ap, ◌∙◌, arith, append_assoc}
use Rattle.std.proofs.Common.{append-nil}
use Rattle.std.specs.Prelude.{codes, IsPermutation, nat_eq}
use Rattle.std.specs.List.{list_all, list_any}
use Rattle.std.specs.Map.{keys_of}
use Rattle.std.proofs.lemmas.Bool.{and_parts, eqb-true, ne_eqb}
use Rattle.std.proofs.lemmas.List.Sorted.{IsPermutation-refl}
use Rattle.word36.specs.Octal.{octal, octal_text, word_text}
use Rattle.word36.specs.Words.{left_half, right_half}
use Rattle.mac_text.specs.Names.{symbol_of}
use Rattle.mac_text.specs.Numbers.{is_digit_of}
use Rattle.mac_text.specs.Scan.{begins_with}
use Rattle.mac_layout.specs.Addresses.{are_apart}
use Rattle.macro_expressions.specs.declared.symbols.Defined.{Defined}
use Rattle.macro_expressions.specs.Reading.{between, Front}
use Rattle.macro_statements.specs.Mentions.{mentions, defined_names, surveyed}
use Rattle.macro_meaning.specs.Meaning.{Walk, Left, put_all, begun, begun_at, meaning, read_through, walked, next_step, is_settled}
use Rattle.meaning_laws.specs.Example.{Leaves}
use Rattle.meaning_laws.specs.Written.{front, argument}
use Rattle.meaning_laws.specs.WrittenSource.{Piece, IsLabel, number_line, place_line, more_labels, labels_text}
use Rattle.meaning_laws.specs.WrittenSource.{words_line}
use Rattle.meaning_laws.specs.WrittenSource.{after, are_zeros, lines_text, table_of}
use Rattle.meaning_laws.proofs.Written.{digit_between}
use Rattle.meaning_laws.proofs.WrittenWords.{octal_digits, half_some, word_line_is, word_is_put}
use Rattle.meaning_laws.proofs.WrittenNames.{Notes, on_and_on, past}
use Rattle.meaning_laws.proofs.WrittenSurvey.{space, loc_noted, end_noted, words_noted}
use Rattle.meaning_laws.proofs.WrittenSteps.{so_far, loc_taken, block_taken, end_taken, Deeper, IsRead, read_on, read_end, read_past}
use Rattle.meaning_laws.proofs.WrittenPieces.{at_places, words_of, symbols_of, AreWords, ArePieces, AreNames, AreNamed, AreReady, zeros_are}
use Rattle.meaning_laws.proofs.WrittenLabels.{label_at, label_noted, label_taken, name_found}
use Rattle.meaning_laws.proofs.WrittenApart.{middle_new, entries_of, keys_are, values_are, all_settled}

-- ---- words

same_state : (defined : List (ℕ × Defined)) (p q : ℕ) (l m : List (ℕ × ℕ)) → p ≡ q → l ≡ m → so_far defined p l ≡ so_far defined q m
same_state defined p q l m e f = ap (λ a. so_far defined a l) e ∙ ap (λ b. so_far defined q b) f

all_are_put : (defined : List (ℕ × Defined)) (words : List ℕ) (place : ℕ) (l : List (ℕ × ℕ))
    → put_all words (so_far defined place l) ≡ so_far defined (place + length words) (l ++ at_places place words)
all_are_put defined [] place l =
    let same : place ≡ place + 0 = omega arith in
    same_state defined place (place + 0) l (l ++ []) same (sym (append-nil l))
all_are_put defined (w ∷ ws) place l =
    let more : place + 1 + length ws ≡ place + length (w ∷ ws) = omega arith in
    all_are_put defined ws (place + 1) (l ++ (place, w) ∷ [])
    ∙ same_state defined (place + 1 + length ws) (place + length (w ∷ ws)) ((l ++ (place, w) ∷ []) ++ at_places (place + 1) ws)
    (l ++ at_places place (w ∷ ws)) more (append_assoc l ((place, w) ∷ []) (at_places (place + 1) ws))

digit_between_lines : (d : ℕ) (cs : List ℕ) → is_digit_of 8 d ≡ true → between false (d ∷ cs) ≡ d ∷ cs
digit_between_lines d cs is =
    let within = digit_between d is in
    rw (
      ne_eqb d 32 (λ e. omega (arith, within.0)),
      ne_eqb d 9 (λ e. omega (arith, within.0)),
      ne_eqb d 12 (λ e. omega (arith, within.0)),
      ne_eqb d 10 (λ e. omega (arith, within.0)),
      ne_eqb d 13 (λ e. omega (arith, within.0)),
      ne_eqb d 59 (λ e. omega (arith, within.1)),
      between,
    )
    refl

digits_between_lines : (ds cs : List ℕ) → 0 < length ds → list_all (is_digit_of 8) ds ≡ true → between false (ds ++ cs) ≡ ds ++ cs
digits_between_lines [] cs some h = absurd (omega arith)
digits_between_lines (d ∷ ds) cs some h = digit_between_lines d (ds ++ cs) (and_parts (is_digit_of 8 d) (list_all (is_digit_of 8) ds) h).0

word_found : (w : ℕ) (rest : List ℕ) → between false (32 ∷ (word_text w ++ 10 ∷ rest)) ≡ word_text w ++ 10 ∷ rest
word_found w rest =
    let right = 44 ∷ 44 ∷ (octal 6 (right_half w) ++ 10 ∷ rest) in
    ap (between false) (word_line_is w rest)
    ∙ (digits_between_lines (octal 6 (left_half w)) right (half_some (left_half w)) (octal_digits 6 (left_half w)) ∙ sym
    (word_line_is w rest))

word_size : (w : ℕ) (rest : List ℕ) → length (word_text w ++ 10 ∷ rest) ≡ length (word_text w) + (length rest + 1)
word_size w rest = omega (arith, length-append (word_text w) (10 ∷ rest))

number_size : (name : List ℕ) (n : ℕ) (rest : List ℕ) → length rest + 1 < length (number_line name n rest)
number_size name n rest =
    omega (arith, length-append name (32 ∷ (octal_text n ++ 10 ∷ rest)), length-append (octal_text n) (10 ∷ rest))

word_read : (table : List (ℕ × ℤ)) (deeper : Deeper) (defined : List (ℕ × Defined)) (place : ℕ) (l : List (ℕ × ℕ)) (w : ℕ) (rest : List ℕ)
    (left : Left)
    → w < 2 ^ 36 → place < 2 ^ 18 → IsRead table deeper (so_far defined (place + 1) (l ++ (place, w) ∷ [])) rest left
    → IsRead table deeper (so_far defined place l) (32 ∷ (word_text w ++ 10 ∷ rest)) left
word_read table deeper defined place l w rest left fits below later =
    let size = word_size w rest in
    read_on table deeper (so_far defined place l) (so_far defined (place + 1) (l ++ (place, w) ∷ [])) (32 ∷ (word_text w ++ 10 ∷ rest))
    (word_text w ++ 10 ∷ rest) (10 ∷ rest) left (word_found w rest)
    (ne_eqb (length (word_text w ++ 10 ∷ rest)) 0 (λ e. omega (arith, size, e)))
    (word_is_put table (so_far defined place l) w rest fits below) refl (omega (arith, size))
    (read_past table deeper (so_far defined (place + 1) (l ++ (place, w) ∷ [])) rest left later)

loc_read : (table : List (ℕ × ℤ)) (deeper : Deeper) (defined : List (ℕ × Defined)) (place n : ℕ) (l : List (ℕ × ℕ)) (rest : List ℕ)
    (left : Left)
    → n ≤ 2 ^ 18 → IsRead table deeper (so_far defined n l) rest left
    → IsRead table deeper (so_far defined place l) (number_line (codes "LOC") n rest) left
loc_read table deeper defined place n l rest left fits later =
    let size = number_size (codes "LOC") n rest in
    read_on table deeper (so_far defined place l) (so_far defined n l) (number_line (codes "LOC") n rest) (codes "LOC" ++ argument n rest)
    (10 ∷ rest) left refl (ne_eqb (length (codes "LOC" ++ argument n rest)) 0 (λ e. omega (arith, e)))
    (loc_taken table (so_far defined place l) n rest refl fits) refl (omega (arith, size))
    (read_past table deeper (so_far defined n l) rest left later)

block_read : (table : List (ℕ × ℤ)) (deeper : Deeper) (defined : List (ℕ × Defined)) (place : ℕ) (l : List (ℕ × ℕ)) (words rest : List ℕ)
    (left : Left)
    → are_zeros words ≡ true → place + length words ≤ 2 ^ 18
    → IsRead table deeper (so_far defined (place + length words) (l ++ at_places place words)) rest left
    → IsRead table deeper (so_far defined place l) (number_line (codes "BLOCK") (length words) rest) left
block_read table deeper defined place l words rest left zeros below later =
    let n = length words in
    let w = so_far defined place l in
    let v = so_far defined (place + n) (l ++ at_places place words) in
    let size = number_size (codes "BLOCK") n rest in
    let puts : put_all (replicate n 0) w ≡ v =
    ap (λ ws. put_all ws w) (sym (zeros_are words zeros)) ∙ all_are_put defined words place l in
    read_on table deeper w v (number_line (codes "BLOCK") n rest) (codes "BLOCK" ++ argument n rest) (10 ∷ rest) left refl
    (ne_eqb (length (codes "BLOCK" ++ argument n rest)) 0 (λ e. omega (arith, e)))
    (block_taken table w n rest refl (omega (arith, below)) below ∙ ap (λ (u : Walk). Ok (None, (u, front (10 ∷ rest)))) puts) refl
    (omega (arith, size)) (read_past table deeper v rest left later)

words_read : (table : List (ℕ × ℤ)) (deeper : Deeper) (defined : List (ℕ × Defined)) (place : ℕ) (l : List (ℕ × ℕ)) (words rest : List ℕ)
    (left : Left)
    → AreWords words → place + length words ≤ 2 ^ 18
    → IsRead table deeper (so_far defined (place + length words) (l ++ at_places place words)) rest left
    → IsRead table deeper (so_far defined place l) (words_line words rest) left
words_read table deeper defined place l [] rest left are below later =
    let same : place + 0 ≡ place = omega arith in
    read_past table deeper (so_far defined place l) rest left
    (subst (λ (w : Walk). IsRead table deeper w rest left) (same_state defined (place + 0) place (l ++ []) l same (append-nil l)) later)
words_read table deeper defined place l (w ∷ []) rest left are below later =
    word_read table deeper defined place l w rest left are (omega (arith, below)) later
words_read table deeper defined place l (w ∷ v ∷ ws) rest left are below later =
    block_read table deeper defined place l (w ∷ v ∷ ws) rest left are below later

-- ---- lines

place_read : (b : Bool) (table : List (ℕ × ℤ)) (deeper : Deeper) (defined : List (ℕ × Defined)) (next place : ℕ) (l : List (ℕ × ℕ))
    (rest : List ℕ)
    (left : Left) → (place == next) ≡ b → place ≤ 2 ^ 18 → IsRead table deeper (so_far defined place l) rest left
    → IsRead table deeper (so_far defined next l) (place_line b place rest) left
place_read true table deeper defined next place l rest left e fits later =
    subst (λ (p : ℕ). IsRead table deeper (so_far defined p l) rest left) (eqb-true place next e) later
place_read false table deeper defined next place l rest left e fits later = loc_read table deeper defined next place l rest left fits later

-- the place after all lines
abbrev end_of : ℕ → List Piece → ℕ
end_of next [] = next
end_of next (p ∷ ps) = end_of (after p) ps

abbrev left_at : List (ℕ × Defined) → ℕ → List (ℕ × ℕ) → ℕ → Left
left_at defined place words start = (record (so_far defined place words) { start = Some start }, front (10 ∷ []))

-- ---- labels

-- a text that goes on no label
record IsPlain (text : List ℕ) : Type 0 where
  colon : begins_with 58 text ≡ false
  mark : begins_with 33 text ≡ false

plain_words : (words rest : List ℕ) → IsPlain (words_line words rest)
plain_words [] rest = record { colon = refl; mark = refl }
plain_words (w ∷ []) rest = record { colon = refl; mark = refl }
plain_words (w ∷ v ∷ ws) rest = record { colon = refl; mark = refl }

plain_more : (names : List (List ℕ)) (rest : List ℕ) → IsPlain rest → IsPlain (more_labels names rest)
plain_more [] rest is = is
plain_more (name ∷ names) rest is = record { colon = refl; mark = refl }

label_read : (table : List (ℕ × ℤ)) (deeper : Deeper) (d : List (ℕ × Defined)) (place : ℕ) (l : List (ℕ × ℕ)) (text name rest : List ℕ)
    (left : Left)
    → IsLabel place name → list_any (nat_eq (symbol_of name)) (keys_of d) ≡ false → between false text ≡ name ++ 58 ∷ rest
    → length rest < length text
    → IsPlain rest → IsRead table deeper (so_far (d ++ label_at place name ∷ []) place l) rest left
    → IsRead table deeper (so_far d place l) text left
label_read table deeper d place l text name rest left is fresh found shorter plain later =
    read_on table deeper (so_far d place l) (so_far (d ++ label_at place name ∷ []) place l) text (name ++ 58 ∷ rest) rest left found
    (ne_eqb (length (name ++ 58 ∷ rest)) 0 (λ e. omega (arith, length-append name (58 ∷ rest), e)))
    (label_taken table d place l name rest is fresh plain.colon plain.mark) refl shorter later

keys_more : (d : List (ℕ × Defined)) (x : ℕ × Defined) (ks : List ℕ) → keys_of (d ++ x ∷ []) ++ ks ≡ keys_of d ++ x.0 ∷ ks
keys_more [] x ks = refl
keys_more (e ∷ es) x ks = ap (λ l. e.0 ∷ l) (keys_more es x ks)

label_size : (name rest : List ℕ) → length rest < length (name ++ 58 ∷ rest)
label_size name rest = omega (arith, length-append name (58 ∷ rest))

more_read : (table : List (ℕ × ℤ)) (deeper : Deeper) (names : List (List ℕ)) (d : List (ℕ × Defined)) (place : ℕ) (l : List (ℕ × ℕ))
    (rest : List ℕ)
    (left : Left) (ks : List ℕ) → AreNames place names → are_apart (keys_of d ++ (map symbol_of names ++ ks)) ≡ true → IsPlain rest
    → IsRead table deeper (so_far (d ++ map (label_at place) names) place l) rest left
    → IsRead table deeper (so_far d place l) (more_labels names rest) left
more_read table deeper [] d place l rest left ks are apart plain later =
    subst (λ (e : List (ℕ × Defined)). IsRead table deeper (so_far e place l) rest left) (append-nil d) later
more_read table deeper (name ∷ names) d place l rest left ks are apart plain later =
    let more = more_labels names rest in
    label_read table deeper d place l (32 ∷ (name ++ 58 ∷ more)) name more left are.0
    (middle_new (keys_of d) (symbol_of name) (map symbol_of names ++ ks) apart) (name_found name more are.0.begins are.0.characters)
    (omega (arith, label_size name more)) (plain_more names rest plain)
    (more_read table deeper names (d ++ label_at place name ∷ []) place l rest left ks are.1
    (ap are_apart (keys_more d (label_at place name) (map symbol_of names ++ ks)) ∙ apart) plain
    (subst (λ (e : List (ℕ × Defined)). IsRead table deeper (so_far e place l) rest left)
    (sym (append_assoc d (label_at place name ∷ []) (map (label_at place) names))) later))

labels_read : (table : List (ℕ × ℤ)) (deeper : Deeper) (names : List (List ℕ)) (d : List (ℕ × Defined)) (place : ℕ) (l : List (ℕ × ℕ))
    (rest : List ℕ)
    (left : Left) (ks : List ℕ) → AreNames place names → are_apart (keys_of d ++ (map symbol_of names ++ ks)) ≡ true → IsPlain rest
    → IsRead table deeper (so_far (d ++ map (label_at place) names) place l) rest left
    → IsRead table deeper (so_far d place l) (labels_text names rest) left
labels_read table deeper [] d place l rest left ks are apart plain later =
    subst (λ (e : List (ℕ × Defined)). IsRead table deeper (so_far e place l) rest left) (append-nil d) later
labels_read table deeper (name ∷ names) d place l rest left ks are apart plain later =
    let more = more_labels names rest in
    label_read table deeper d place l (name ++ 58 ∷ more) name more left are.0
    (middle_new (keys_of d) (symbol_of name) (map symbol_of names ++ ks) apart) (name_found name more are.0.begins are.0.characters)
    (label_size name more) (plain_more names rest plain)
    (more_read table deeper names (d ++ label_at place name ∷ []) place l rest left ks are.1
    (ap are_apart (keys_more d (label_at place name) (map symbol_of names ++ ks)) ∙ apart) plain
    (subst (λ (e : List (ℕ × Defined)). IsRead table deeper (so_far e place l) rest left)
    (sym (append_assoc d (label_at place name ∷ []) (map (label_at place) names))) later))

keys_labels : (d : List (ℕ × Defined)) (place : ℕ) (names : List (List ℕ)) (ks : List ℕ)
    → keys_of (d ++ map (label_at place) names) ++ ks ≡ keys_of d ++ (map symbol_of names ++ ks)
keys_labels [] place [] ks = refl
keys_labels [] place (name ∷ names) ks = ap (λ l. symbol_of name ∷ l) (keys_labels [] place names ks)
keys_labels (e ∷ es) place names ks = ap (λ l. e.0 ∷ l) (keys_labels es place names ks)

-- ---- all lines

lines_read : (table : List (ℕ × ℤ)) (deeper : Deeper) (d : List (ℕ × Defined)) (start next : ℕ) (l : List (ℕ × ℕ)) (ps : List Piece)
    → start < 2 ^ 18
    → ArePieces ps → AreNamed ps → are_apart (keys_of d ++ symbols_of ps) ≡ true
    → IsRead table deeper (so_far d next l) (lines_text start next ps)
    (left_at (d ++ entries_of ps) (end_of next ps) (l ++ words_of ps) start)
lines_read table deeper d start next l [] fits are named apart =
    subst (λ (e : List (ℕ × Defined)). IsRead table deeper (so_far d next l) (lines_text start next []) (left_at e next (l ++ []) start))
    (sym (append-nil d))
    (subst (λ (words : List (ℕ × ℕ)). IsRead table deeper (so_far d next l) (lines_text start next []) (left_at d next words start))
    (sym (append-nil l))
    (read_end table deeper (so_far d next l) (record (so_far d next l) { start = Some start }) (lines_text start next [])
    (codes "END" ++ argument start []) (front (10 ∷ [])) start refl
    (ne_eqb (length (codes "END" ++ argument start [])) 0 (λ e. omega (arith, e)))
    (end_taken table (so_far d next l) start [] refl fits) refl))
lines_read table deeper d start next l (p ∷ ps) fits are named apart =
    let rest = lines_text start (after p) ps in
    let below : after p ≤ 2 ^ 18 = are.0.below in
    let line = words_line p.words rest in
    let left = left_at (d ++ entries_of (p ∷ ps)) (end_of (after p) ps) (l ++ words_of (p ∷ ps)) start in
    let d' = d ++ map (label_at p.place) p.labels in
    let l' = l ++ at_places p.place p.words in
    let read =
    lines_read table deeper d' start (after p) l' ps fits are.1 named.1
    (ap are_apart (keys_labels d p.place p.labels (symbols_of ps)) ∙ apart) in
    let words : IsRead table deeper (so_far d' (after p) l') rest
    (left_at (d' ++ entries_of ps) (end_of (after p) ps) (l ++ words_of (p ∷ ps)) start) =
    subst (λ (m : List (ℕ × ℕ)). IsRead table deeper (so_far d' (after p) l') rest
    (left_at (d' ++ entries_of ps) (end_of (after p) ps) m start))
    (append_assoc l (at_places p.place p.words) (words_of ps)) read in
    let later : IsRead table deeper (so_far d' (after p) l') rest left =
    subst (λ (e : List (ℕ × Defined)). IsRead table deeper (so_far d' (after p) l') rest
    (left_at e (end_of (after p) ps) (l ++ words_of (p ∷ ps)) start))
    (append_assoc d (map (label_at p.place) p.labels) (entries_of ps)) words in
    let line_is : IsRead table deeper (so_far d' p.place l) line left =
    words_read table deeper d' p.place l p.words rest left are.0.words below later in
    place_read (p.place == next) table deeper d next p.place l (labels_text p.labels line) left refl (omega (arith, below))
    (labels_read table deeper p.labels d p.place l line left (symbols_of ps) named.0 apart (plain_words p.words rest) line_is)

-- ---- the survey

place_noted : (b : Bool) (place : ℕ) (rest : List ℕ) → Notes (place_line b place rest) rest
place_noted true place rest = record { mentioned = refl; defined = refl }
place_noted false place rest = loc_noted place rest

more_noted : (place : ℕ) (names : List (List ℕ)) (rest : List ℕ) → AreNames place names → Notes (more_labels names rest) rest
more_noted place [] rest are = record { mentioned = refl; defined = refl }
more_noted place (name ∷ names) rest are =
    let more = more_labels names rest in
    on_and_on (32 ∷ (name ++ 58 ∷ more)) (name ++ 58 ∷ more) rest (past 32 (name ++ 58 ∷ more) space)
    (on_and_on (name ++ 58 ∷ more) more rest (label_noted place name more are.0) (more_noted place names rest are.1))

labels_noted : (place : ℕ) (names : List (List ℕ)) (rest : List ℕ) → AreNames place names → Notes (labels_text names rest) rest
labels_noted place [] rest are = record { mentioned = refl; defined = refl }
labels_noted place (name ∷ names) rest are =
    let more = more_labels names rest in
    on_and_on (name ++ 58 ∷ more) more rest (label_noted place name more are.0) (more_noted place names rest are.1)

lines_noted : (start next : ℕ) (ps : List Piece) → AreNamed ps → Notes (lines_text start next ps) []
lines_noted start next [] named = end_noted start []
lines_noted start next (p ∷ ps) named =
    let rest = lines_text start (after p) ps in
    let line = words_line p.words rest in
    let inner = labels_text p.labels line in
    on_and_on (lines_text start next (p ∷ ps)) inner [] (place_noted (p.place == next) p.place inner)
    (on_and_on inner line [] (labels_noted p.place p.labels line named.0)
    (on_and_on line rest [] (words_noted p.words rest) (lines_noted start (after p) ps named.1)))

nothing_surveyed : (text : List ℕ) → Notes text [] → surveyed text ≡ Some []
unfolding mentions defined_names
nothing_surveyed text notes = rw (notes.mentioned, notes.defined) refl

-- ---- the whole

read_by : (table : List (ℕ × ℤ)) (depth : ℕ) (w : Walk) (s : Front)
    → read_through table (suc depth) w s ≡ walked (next_step table (read_through table depth)) (length s.rest + 1) w s
unfolding read_through
read_by table depth w s = refl

meaning_is : (table : List (ℕ × ℤ)) (source : List ℕ) (v : Walk) (s : Front) (start : ℕ) → surveyed source ≡ Some []
    → read_through table 40 (begun [] []) (begun_at source) ≡ Ok (v, s) → v.start ≡ Some start → meaning table [] source ≡ Ok v
unfolding meaning
meaning_is table source v s start a b c = rw (a, b, c) refl

pub pieces_leave : (ps : List Piece) (words : List (ℕ × ℕ)) (start : ℕ) → AreReady ps words → start < 2 ^ 18
    → Leaves (table_of ps) [] (lines_text start 0o140 ps) words start
unfolding are_apart
pieces_leave ps words start ready fits =
    let text = lines_text start 0o140 ps in
    let table = table_of ps in
    let left = record (so_far (entries_of ps) (end_of 0o140 ps) (words_of ps)) { start = Some start } in
    let read : read_through table 40 (begun [] []) (begun_at text) ≡ Ok (left, front (10 ∷ [])) =
    read_by table 39 (begun [] []) (begun_at text)
    ∙ lines_read table (read_through table 39) [] start 0o140 [] ps fits ready.pieces ready.named ready.apart (length text + 1) (omega arith) in (
      left,
      meaning_is table text left (front (10 ∷ [])) start (nothing_surveyed text (lines_noted start 0o140 ps ready.named)) read refl,
      record {
        settled = ap (λ t. is_settled t (entries_of ps)) (sym (values_are ps)) ∙ all_settled (entries_of ps)
            (ap are_apart (keys_are ps) ∙ ready.apart);
        same_words = subst (λ (l : List (ℕ × ℕ)). IsPermutation (words_of ps) l) ready.same (IsPermutation-refl (words_of ps));
        start_is = refl;
      },
    )
