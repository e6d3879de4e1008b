-- The source that `macro` writes for an image assembles to that image.
use Rattle.std.proofs.Common.{◌≡◌, ◌∙◌, sym, ap, subst, ℕ, ◌+◌, ◌*◌, ◌^◌, ◌<◌, ◌≤◌, ◌==◌, Bool, true, false, nat_eq, List, [], ◌∷◌, ◌++◌}
use Rattle.std.proofs.Common.{length, map, replicate, Option, Some, None, option_map, refl, arith, append-nil}
use Rattle.std.specs.Prelude.{flat_map, unwrap_or, pos}
use Rattle.std.specs.List.{list_any, last_or}
use Rattle.std.specs.Map.{keys_of, values_of}
use Rattle.std.proofs.lemmas.Bool.{eqb-true, ne_eqb, lt-ltb}
use Rattle.word36.specs.Words.{left_half, right_half}
use Rattle.mac_text.specs.Names.{symbol_of}
use Rattle.mac_text.specs.declared.syntax.Line.{Line}
use Rattle.mac_text.specs.Printed.{number_alone}
use Rattle.mac_layout.specs.Values.{◌>>=◌, Names, residue_of}
use Rattle.mac_layout.specs.Addresses.{Labels, first_address, are_apart, names_at, size_of, address_behind, Located, located}
use Rattle.mac_layout.specs.Addresses.{address_after, labels_at}
use Rattle.mac_layout.specs.Addresses.{literal_sizes, addresses_from, Placed, placed, is_settled, are_settled}
use Rattle.mac_asm.specs.Words.{fitted, half_of, halves_of, words_of as words_by}
use Rattle.mac_asm.specs.Assembly.{IsAssembly, lines_at, lines_placed, all_words_of, at_addresses, words_from, statement_words}
use Rattle.mac_asm.specs.Assembly.{literal_words}
use Rattle.mac_asm.specs.Assembly.{all_statement_words, all_literal_words, words_at, allows, are_allowed, are_below, have_words}
use Rattle.mac_asm.specs.Assembly.{start_from, start_at}
use Rattle.asm_laws.proofs.Printed.{value-number, half-residue}
use Rattle.image_files.specs.Images.{IsImage, WordsFit}
use Rattle.mac_source.proofs.Given.{loc_if, loc_given, end_given}
use Rattle.mac_source.proofs.WordValues.{start-address, count-size}
use Rattle.mac_source.proofs.PlacedWords.{are_words}
use Rattle.mac_source.proofs.PlacedWords.{AreWords as AreRising}
use Rattle.mac_source.proofs.Assemblies.{by_address_same}
use Rattle.meaning_laws.specs.WrittenSource.{Piece, after, lines_text}
use Rattle.meaning_laws.proofs.WrittenWords.{octal_value}
use Rattle.meaning_laws.proofs.WrittenPieces.{at_places, words_of, symbols_of, AreWords, IsPiece, ArePieces, AreNames, AreNamed}
use Rattle.meaning_laws.proofs.WrittenPieces.{AreReady, zeros_are}
use Rattle.meaning_laws.proofs.WrittenGrammar.{half_read, statement_for, piece_given, unmarked, lines_given, lines_parsed}

-- ---- the places of the lines

abbrev line_at : ℕ → Line → Located
line_at address line = record { address = address; line = line }

abbrev located_lines : ℕ → ℕ → List Piece → List Located
located_lines start next [] = line_at next (end_given unmarked start) ∷ []
located_lines start next (p ∷ ps) =
    loc_if (p.place == next) (line_at next (loc_given p.place)) (line_at p.place (piece_given p) ∷ located_lines start (after p) ps)

words_behind : (m : Labels) (address : ℕ) (words : List ℕ) → AreWords words → address + length words ≤ 2 ^ 18
    → address_behind m address (statement_for words) ≡ address + length words
unfolding address_behind size_of
words_behind m address [] are below = omega arith
words_behind m address (w ∷ []) are below = refl
words_behind m address (w ∷ v ∷ ws) are below =
    ap (λ o. address + unwrap_or o 0) (count-size (names_at m address []) (length (w ∷ v ∷ ws)) (omega (arith, below)))

piece_first : (m : Labels) (p : Piece) (rest : List Line) → IsPiece p
    → located m p.place (piece_given p ∷ rest) ≡ line_at p.place (piece_given p) ∷ located m (after p) rest
unfolding located
piece_first m p rest is =
    ap (λ n. line_at p.place (piece_given p) ∷ located m n rest) (words_behind m p.place p.words is.words is.below)

loc_first : (m : Labels) (b : Bool) (p next : ℕ) (rest : List Line) → (p == next) ≡ b → p ≤ 2 ^ 18
    → located m next (loc_if b (loc_given p) rest) ≡ loc_if b (line_at next (loc_given p)) (located m p rest)
unfolding located address_behind
loc_first m true p next rest e h = ap (λ n. located m n rest) (sym (eqb-true p next e))
loc_first m false p next rest e h =
    ap (λ o. line_at next (loc_given p) ∷ located m (unwrap_or o next) rest) (count-size (names_at m next []) p h)

located_is : (m : Labels) (start next : ℕ) (ps : List Piece) → ArePieces ps
    → located m next (lines_given start next ps) ≡ located_lines start next ps
unfolding located
located_is m start next [] are = refl
located_is m start next (p ∷ ps) are =
    let below : p.place + length p.words ≤ 2 ^ 18 = are.0.below in
    loc_first m (p.place == next) p.place next (piece_given p ∷ lines_given start (after p) ps) refl (omega (arith, below))
    ∙ ap (loc_if (p.place == next) (line_at next (loc_given p.place)))
    (piece_first m p (lines_given start (after p) ps) are.0
    ∙ ap (λ ls. line_at p.place (piece_given p) ∷ ls) (located_is m start (after p) ps are.1))

-- ---- labels

abbrev pairs : List Piece → Labels
pairs [] = []
pairs (p ∷ ps) = map (λ name. (name, p.place)) (map symbol_of p.labels) ++ pairs ps

loc_labels : (b : Bool) (next p : ℕ) (rest : List Located)
    → flat_map labels_at (loc_if b (line_at next (loc_given p)) rest) ≡ flat_map labels_at rest
loc_labels true next p rest = refl
loc_labels false next p rest = refl

labels_given : (start next : ℕ) (ps : List Piece) → flat_map labels_at (located_lines start next ps) ≡ pairs ps
labels_given start next [] = refl
labels_given start next (p ∷ ps) =
    loc_labels (p.place == next) next p.place (line_at p.place (piece_given p) ∷ located_lines start (after p) ps)
    ∙ ap (λ ls. map (λ name. (name, p.place)) (map symbol_of p.labels) ++ ls) (labels_given start (after p) ps)

keys_with : (place : ℕ) (names : List ℕ) (more : Labels) → keys_of (map (λ name. (name, place)) names ++ more) ≡ names ++ keys_of more
keys_with place [] more = refl
keys_with place (n ∷ ns) more = ap (λ l. n ∷ l) (keys_with place ns more)

keys_are : (ps : List Piece) → keys_of (pairs ps) ≡ symbols_of ps
keys_are [] = refl
keys_are (p ∷ ps) = keys_with p.place (map symbol_of p.labels) (pairs ps) ∙ ap (λ l. map symbol_of p.labels ++ l) (keys_are ps)

below_with : (place : ℕ) (labels : List (List ℕ)) (more : Labels) → AreNames place labels → are_below (values_of more) ≡ true
    → are_below (values_of (map (λ name. (name, place)) (map symbol_of labels) ++ more)) ≡ true
below_with place [] more are h = h
below_with place (l ∷ ls) more are h = rw (lt-ltb place (2 ^ 18) are.0.below, below_with place ls more are.1 h) refl

labels_below : (ps : List Piece) → AreNamed ps → are_below (values_of (pairs ps)) ≡ true
labels_below [] named = refl
labels_below (p ∷ ps) named = below_with p.place p.labels (pairs ps) named.0 (labels_below ps named.1)

-- ---- no literals, and no labels in LOC and BLOCK

loc_sizes : (m : Labels) (b : Bool) (next p : ℕ) (rest : List Located)
    → literal_sizes m (loc_if b (line_at next (loc_given p)) rest) ≡ literal_sizes m rest
loc_sizes m true next p rest = refl
loc_sizes m false next p rest = refl

no_sizes : (m : Labels) (start next : ℕ) (ps : List Piece) → literal_sizes m (located_lines start next ps) ≡ []
no_sizes m start next [] = refl
no_sizes m start next (p ∷ ps) =
    loc_sizes m (p.place == next) next p.place (line_at p.place (piece_given p) ∷ located_lines start (after p) ps) ∙ no_sizes m start
    (after p) ps

words_settled : (above : List ℕ) (words : List ℕ) → is_settled above (statement_for words) ≡ true
words_settled above [] = refl
words_settled above (w ∷ []) = refl
words_settled above (w ∷ v ∷ ws) = refl

loc_settled : (b : Bool) (above : List ℕ) (p : ℕ) (rest : List Line) → ((above : List ℕ) → are_settled above rest ≡ true)
    → are_settled above (loc_if b (loc_given p) rest) ≡ true
unfolding are_settled
loc_settled true above p rest h = h above
loc_settled false above p rest h = h (above ++ [])

lines_settled : (start next : ℕ) (ps : List Piece) (above : List ℕ) → are_settled above (lines_given start next ps) ≡ true
unfolding are_settled
lines_settled start next [] above = refl
lines_settled start next (p ∷ ps) above =
    loc_settled (p.place == next) above p.place (piece_given p ∷ lines_given start (after p) ps)
    (λ above.
    let names = above ++ map symbol_of p.labels in
    rw (words_settled names p.words, lines_settled start (after p) ps names) refl)

-- ---- what names stand for

abbrev placed_line : Labels → Located → Placed
placed_line m at = record { names = names_at m at.address []; line = at.line }

loc_placed : (m : Labels) (b : Bool) (next p : ℕ) (rest : List Located) → placed m rest [] ≡ map (placed_line m) rest
    → placed m (loc_if b (line_at next (loc_given p)) rest) [] ≡ map (placed_line m) (loc_if b (line_at next (loc_given p)) rest)
unfolding placed
loc_placed m true next p rest e = e
loc_placed m false next p rest e = ap (λ ls. placed_line m (line_at next (loc_given p)) ∷ ls) e

placed_is : (m : Labels) (start next : ℕ) (ps : List Piece)
    → placed m (located_lines start next ps) [] ≡ map (placed_line m) (located_lines start next ps)
unfolding placed
placed_is m start next [] = refl
placed_is m start next (p ∷ ps) =
    loc_placed m (p.place == next) next p.place (line_at p.place (piece_given p) ∷ located_lines start (after p) ps)
    (ap (λ ls. placed_line m (line_at p.place (piece_given p)) ∷ ls) (placed_is m start (after p) ps))

words_allowed : (names : Names) (words : List ℕ) → allows names (statement_for words) ≡ true
words_allowed names [] = refl
words_allowed names (w ∷ []) = refl
words_allowed names (w ∷ v ∷ ws) = refl

loc_allowed : (m : Labels) (b : Bool) (next p : ℕ) (rest : List Located) → p ≤ 2 ^ 18 → are_allowed (map (placed_line m) rest) ≡ true
    → are_allowed (map (placed_line m) (loc_if b (line_at next (loc_given p)) rest)) ≡ true
loc_allowed m true next p rest h e = e
loc_allowed m false next p rest h e = rw (count-size (names_at m next []) p h, e) refl

lines_allowed : (m : Labels) (start next : ℕ) (ps : List Piece) → ArePieces ps
    → are_allowed (map (placed_line m) (located_lines start next ps)) ≡ true
lines_allowed m start next [] are = refl
lines_allowed m start next (p ∷ ps) are =
    let below : p.place + length p.words ≤ 2 ^ 18 = are.0.below in
    loc_allowed m (p.place == next) next p.place (line_at p.place (piece_given p) ∷ located_lines start (after p) ps) (omega (arith, below))
    (rw (words_allowed (names_at m p.place []) p.words, lines_allowed m start (after p) ps are.1) refl)

-- ---- words

half_value : (names : Names) (n : ℕ) → n < 2 ^ 18 → half_of names (number_alone (half_read n)) ≡ Some n
unfolding fitted
half_value names n h =
    let same : half_read n ≡ n = octal_value 6 n (omega (arith, h)) in
    ap (λ o. o >>= residue_of 262143 262143 262144) (value-number names (half_read n) ∙ ap (λ m. Some (pos m)) same) ∙ half-residue n h

halves_value : (names : Names) (w : ℕ) → w < 2 ^ 36
    → halves_of names (number_alone (half_read (left_half w))) (number_alone (half_read (right_half w))) ≡ Some w
unfolding halves_of
halves_value names w h =
    let l : left_half w < 2 ^ 18 = omega (arith, h) in
    let r : right_half w < 2 ^ 18 = omega arith in
    let e : left_half w * 2 ^ 18 + right_half w ≡ w = omega arith in
    ap (λ o. o >>= λ a. half_of names (number_alone (half_read (right_half w))) >>= λ b. Some (a * 2 ^ 18 + b))
    (half_value names (left_half w) l)
    ∙ ap (λ o. o >>= λ b. Some (left_half w * 2 ^ 18 + b)) (half_value names (right_half w) r)
    ∙ ap Some e

at_same : (address : ℕ) (words : List ℕ) → at_addresses address words ≡ at_places address words
at_same address [] = refl
at_same address (w ∷ ws) = ap (λ l. (address, w) ∷ l) (at_same (address + 1) ws)

words_are : (m : Labels) (address : ℕ) (words : List ℕ) → AreWords words → address + length words ≤ 2 ^ 18
    → statement_words (names_at m address []) (statement_for words) ≡ Some (at_places address words)
unfolding statement_words words_from all_words_of words_by
words_are m address [] are below = refl
words_are m address (w ∷ []) are below =
    ap (λ o. option_map (at_addresses address) (option_map (λ v. v ∷ []) o)) (halves_value (names_at m address []) w are)
words_are m address (w ∷ v ∷ ws) are below =
    let words = w ∷ v ∷ ws in
    ap (λ o. option_map (at_addresses address) (option_map (λ n. replicate n 0) o))
    (count-size (names_at m address []) (length words) (omega (arith, below)))
    ∙ ap (λ l. Some l) (ap (at_addresses address) (sym (zeros_are words are)) ∙ at_same address words)

loc_words : (m : Labels) (b : Bool) (next p : ℕ) (rest : List Located) (words : List (ℕ × ℕ))
    → all_statement_words (map (placed_line m) rest) ≡ Some words
    → all_statement_words (map (placed_line m) (loc_if b (line_at next (loc_given p)) rest)) ≡ Some words
unfolding all_statement_words statement_words
loc_words m true next p rest words e = e
loc_words m false next p rest words e = ap (λ o. o >>= λ more. Some more) e

end_words : (m : Labels) (next start : ℕ) → statement_words (names_at m next []) (end_given unmarked start).statement ≡ Some []
unfolding statement_words
end_words m next start = refl

statements_give : (m : Labels) (start next : ℕ) (ps : List Piece) → ArePieces ps
    → all_statement_words (map (placed_line m) (located_lines start next ps)) ≡ Some (words_of ps)
unfolding all_statement_words
statements_give m start next [] are = ap (λ o. o >>= λ first. Some (first ++ [])) (end_words m next start)
statements_give m start next (p ∷ ps) are =
    let later = located_lines start (after p) ps in
    loc_words m (p.place == next) next p.place (line_at p.place (piece_given p) ∷ later) (words_of (p ∷ ps))
    (ap (λ o. o >>= λ first. all_statement_words (map (placed_line m) later) >>= λ more. Some (first ++ more))
    (words_are m p.place p.words are.0.words are.0.below)
    ∙ ap (λ o. o >>= λ more. Some (at_places p.place p.words ++ more)) (statements_give m start (after p) ps are.1))

loc_no_literals : (m : Labels) (b : Bool) (next p : ℕ) (rest : List Located) → all_literal_words (map (placed_line m) rest) ≡ Some []
    → all_literal_words (map (placed_line m) (loc_if b (line_at next (loc_given p)) rest)) ≡ Some []
unfolding all_literal_words literal_words
loc_no_literals m true next p rest e = e
loc_no_literals m false next p rest e = ap (λ o. o >>= λ more. Some more) e

literals_give : (m : Labels) (start next : ℕ) (ps : List Piece)
    → all_literal_words (map (placed_line m) (located_lines start next ps)) ≡ Some []
unfolding all_literal_words literal_words
literals_give m start next [] = refl
literals_give m start next (p ∷ ps) =
    loc_no_literals m (p.place == next) next p.place (line_at p.place (piece_given p) ∷ located_lines start (after p) ps)
    (ap (λ o. o >>= λ more. Some more) (literals_give m start (after p) ps))

lines_give : (m : Labels) (start next : ℕ) (ps : List Piece) → ArePieces ps
    → words_at (map (placed_line m) (located_lines start next ps)) ≡ Some (words_of ps)
unfolding words_at
lines_give m start next ps are =
    let lines = map (placed_line m) (located_lines start next ps) in
    ap (λ o. o >>= λ own. all_literal_words lines >>= λ literals. Some (own ++ literals)) (statements_give m start next ps are)
    ∙ (ap (λ o. o >>= λ literals. Some (words_of ps ++ literals)) (literals_give m start next ps) ∙ ap Some (append-nil (words_of ps)))

-- ---- the start

loc_last : (m : Labels) (b : Bool) (next p : ℕ) (at : Located) (rest : List Located) (o : Option Placed)
    → last_or o (map (placed_line m) (loc_if b (line_at next (loc_given p)) (at ∷ rest))) ≡ last_or (Some (placed_line m at))
    (map (placed_line m) rest)
loc_last m true next p at rest o = refl
loc_last m false next p at rest o = refl

last_is : (m : Labels) (start next : ℕ) (ps : List Piece) (o : Option Placed) (P : Option Placed → Type 0)
    → ((address : ℕ) → P (Some (placed_line m (line_at address (end_given unmarked start)))))
    → P (last_or o (map (placed_line m) (located_lines start next ps)))
last_is m start next [] o P h = h next
last_is m start next (p ∷ ps) o P h =
    let later = located_lines start (after p) ps in
    subst P (sym (loc_last m (p.place == next) next p.place (line_at p.place (piece_given p)) later o))
    (last_is m start (after p) ps (Some (placed_line m (line_at p.place (piece_given p)))) P h)

start_named : (m : Labels) (start next : ℕ) (ps : List Piece) → start < 2 ^ 18
    → start_at (map (placed_line m) (located_lines start next ps)) ≡ Some start
unfolding start_at
start_named m start next ps h =
    last_is m start next ps None (λ o. start_from o ≡ Some start)
    (λ address. start-address (names_at m address []) false start h (λ e. absurd (cc)))

-- ---- the words of an image

words_below : (least : ℕ) (xs : List (ℕ × ℕ)) → AreRising least xs → are_below (keys_of xs) ≡ true
words_below least [] r = refl
words_below least (x ∷ xs) r = rw (lt-ltb x.0 (2 ^ 18) r.1, words_below (x.0 + 1) xs r.3) refl

no_word : (q least : ℕ) (xs : List (ℕ × ℕ)) → q < least → AreRising least xs → list_any (nat_eq q) (keys_of xs) ≡ false
no_word q least [] h r = refl
no_word q least (x ∷ xs) h r =
    let low : least ≤ x.0 = r.0 in
    let next : q < x.0 + 1 = omega arith in
    rw (ne_eqb q x.0 (λ e. omega arith), no_word q (x.0 + 1) xs next r.3) refl

words_apart : (least : ℕ) (xs : List (ℕ × ℕ)) → AreRising least xs → are_apart (keys_of xs) ≡ true
unfolding are_apart
words_apart least [] r = refl
words_apart least (x ∷ xs) r =
    let next : x.0 < x.0 + 1 = omega arith in
    rw (no_word x.0 (x.0 + 1) xs next r.3, words_apart (x.0 + 1) xs r.3) refl

-- ---- the whole

pub pieces_assemble : (ps : List Piece) (words : List (ℕ × ℕ)) (start : ℕ) → AreReady ps words → IsImage words start → WordsFit words
    → IsAssembly (lines_text start 0o140 ps) (record { words = words; start = start })
unfolding addresses_from
pieces_assemble ps words start ready is fit =
    let rising : AreRising 0 words = are_words 0 words is.rises fit in
    let m = pairs ps in
    let lines = lines_given start first_address ps in
    let at = located_lines start first_address ps in
    let places : lines_at m lines ≡ at = located_is m start first_address ps ready.pieces in
    let sizes : literal_sizes m (lines_at m lines) ≡ [] = ap (literal_sizes m) places ∙ no_sizes m start first_address ps in
    let stands : lines_placed m lines ≡ map (placed_line m) at =
    ap (placed m (lines_at m lines)) (ap (addresses_from (address_after m first_address lines)) sizes)
    ∙ (ap (λ ls. placed m ls []) places ∙ placed_is m start first_address ps) in
    record {
      lines = lines;
      labels = m;
      words = words;
      reads = lines_parsed start first_address ps ready.named;
      is_map = sym (ap (flat_map labels_at) places ∙ labels_given start first_address ps);
      once = ap are_apart (keys_are ps) ∙ ready.apart;
      settled = lines_settled start first_address ps [];
      literals = ap have_words sizes;
      allowed = ap are_allowed stands ∙ lines_allowed m start first_address ps ready.pieces;
      gives = ap words_at stands ∙ (lines_give m start first_address ps ready.pieces ∙ ap Some ready.same);
      labels_below = labels_below ps ready.named;
      words_below = words_below 0 words rising;
      words_apart = words_apart 0 words rising;
      words_are = sym (by_address_same words rising);
      start_is = ap start_at stands ∙ start_named m start first_address ps is.start_fits;
    }
