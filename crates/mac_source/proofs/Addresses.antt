-- Where the lines of a source stand, and what they give there.
use Rattle.std.proofs.Common.{◌≡◌, ◌∙◌, sym, ap, subst, ℕ, zero, suc, ◌+◌, ◌*◌, ◌/◌, ◌^◌, ◌<◌, ◌≤◌, ◌==◌, Bool, true, false, nat_eq, List, [], ◌∷◌, ◌++◌}
use Rattle.std.proofs.Common.{map, Option, Some, None, option_map, refl, arith}
use Rattle.std.specs.Prelude.{flat_map, replicate, unwrap_or}
use Rattle.std.specs.List.{last_or}
use Rattle.std.specs.Map.{lookup}
use Rattle.std.proofs.lemmas.Bool.{and_parts, eqb-true}
use Rattle.word36.specs.Words.{right_half}
use Rattle.ka_isa.specs.Operations.{Name, name_of}
use Rattle.mac_text.specs.declared.syntax.Line.{Line}
use Rattle.mac_layout.specs.Values.{◌>>=◌, Names}
use Rattle.mac_layout.specs.Addresses.{Labels, names_at, size_of, address_behind, Located, located, labels_at, literal_sizes, Placed, placed}
use Rattle.mac_layout.specs.Addresses.{is_count_settled, are_settled}
use Rattle.mac_asm.specs.Words.{words_of, text_word, text_words_from}
use Rattle.mac_asm.specs.Packing.{ascii_word}
use Rattle.mac_text.specs.declared.syntax.TextForm.TheVariants.{Asciz}
use Rattle.mac_source.specs.Pieces.{text_count, text_words}
use Rattle.mac_source.specs.Pieces.{text_words_from as words_of_text}
use Rattle.mac_asm.specs.Assembly.{all_words_of, at_addresses, words_from, statement_words, literal_words, all_statement_words, all_literal_words, words_at}
use Rattle.mac_asm.specs.Assembly.{are_allowed, start_from, start_at}
use Rattle.mac_source.specs.Sources.{Style, shown}
use Rattle.mac_source.specs.declared.pieces.Piece.{Piece}
use Rattle.mac_source.specs.declared.pieces.Piece.TheVariants as pieces
use Rattle.mac_source.specs.Pieces.{address_of, count, behind, words_in}
use Rattle.mac_source.proofs.LabelTexts.{read_number}
use Rattle.mac_source.proofs.PieceLemmas.{IsPiece, ArePieces, heads}
use Rattle.mac_text.specs.Printed.{number_alone}
use Rattle.mac_text.specs.declared.syntax.Data.TheVariants as data_of
use Rattle.mac_source.proofs.Given.{symbol_at, symbols_if, data_in, loc_if, word_data, piece_data, piece_given, loc_given, end_given, lines_given}
use Rattle.mac_source.proofs.WordValues.{words_back, start-address, count-number, count-size}

-- ---- where the lines stand

abbrev pub line_at : ℕ → Line → Located
line_at address line = record { address = address; line = line }

unfoldable pub located_lines : Style → ℕ → ℕ → List Piece → List Located
located_lines style start here [] = line_at here (end_given style.marked start) ∷ []
located_lines style start here (p ∷ ps) =
    loc_if (address_of p == here) (line_at here (loc_given (address_of p))) (line_at (address_of p) (piece_given style p) ∷ located_lines style start (behind p) ps)

data_size : (m : Labels) (here : ℕ) (marked : ℕ → Bool) (o : Option Name) (w : ℕ) → size_of m here (data_in marked o w) ≡ 1
unfolding size_of
data_size m here marked (Some name) w = refl
data_size m here marked None w = refl

piece_size : (m : Labels) (here : ℕ) (style : Style) (p : Piece) → IsPiece p → size_of m here (piece_data style p) ≡ count p
unfolding size_of
piece_size m here style (pieces.Word a w) is = data_size m here (shown style w) (name_of (w / 2 ^ 27)) w
piece_size m here style (pieces.Zeros a n) is =
    let few : n ≤ 2 ^ 18 = omega (arith, is.1) in
    ap (λ o. unwrap_or o 0) (count-size (names_at m here []) n few)
piece_size m here style (pieces.Text a text) is = refl

piece_first : (m : Labels) (style : Style) (p : Piece) (rest : List Line) → IsPiece p
    → located m (address_of p) (piece_given style p ∷ rest) ≡ line_at (address_of p) (piece_given style p) ∷ located m (behind p) rest
unfolding located address_behind
piece_first m style p rest is =
    ap (λ n. line_at (address_of p) (piece_given style p) ∷ located m (address_of p + n) rest) (piece_size m (address_of p) style p is)

loc_first : (m : Labels) (b : Bool) (p here : ℕ) (rest : List Line) → (p == here) ≡ b → p < 2 ^ 18
    → located m here (loc_if b (loc_given p) rest) ≡ loc_if b (line_at here (loc_given p)) (located m p rest)
unfolding located address_behind
loc_first m true p here rest e h = ap (λ n. located m n rest) (sym (eqb-true p here e))
loc_first m false p here rest e h =
    ap (λ o. line_at here (loc_given p) ∷ located m (unwrap_or o here) rest) (count-number (names_at m here []) p h)

pub located_is : (m : Labels) (style : Style) (start here least : ℕ) (ps : List Piece) → ArePieces least ps
    → located m here (lines_given style start here ps) ≡ located_lines style start here ps
unfolding located lines_given located_lines
located_is m style start here least [] r = refl
located_is m style start here least (p ∷ ps) r =
    loc_first m (address_of p == here) (address_of p) here (piece_given style p ∷ lines_given style start (behind p) ps) refl r.1
    ∙ ap (loc_if (address_of p == here) (line_at here (loc_given (address_of p))))
    (piece_first m style p (lines_given style start (behind p) ps) r.2
    ∙ ap (λ ls. line_at (address_of p) (piece_given style p) ∷ ls) (located_is m style start (behind p) (behind p) ps r.3))

-- ---- labels

abbrev pub pair_if : Bool → ℕ → Labels → Labels
pair_if true p rest = (symbol_at p, p) ∷ rest
pair_if false p rest = rest

unfoldable pub pairs : (ℕ → Bool) → List (ℕ × ℕ) → Labels
pairs marked [] = []
pairs marked (x ∷ xs) = pair_if (marked x.0) x.0 (pairs marked xs)

own_pair : (b : Bool) (p : ℕ) (rest : Labels) → map (λ name. (name, p)) (symbols_if b p) ++ rest ≡ pair_if b p rest
own_pair true p rest = refl
own_pair false p rest = refl

loc_labels : (b : Bool) (here p : ℕ) (rest : List Located) → flat_map labels_at (loc_if b (line_at here (loc_given p)) rest) ≡ flat_map labels_at rest
loc_labels true here p rest = refl
loc_labels false here p rest = refl

pub labels_are : (style : Style) (start here : ℕ) (ps : List Piece) → flat_map labels_at (located_lines style start here ps) ≡ pairs style.marked (heads ps)
unfolding located_lines pairs
labels_are style start here [] = refl
labels_are style start here (p ∷ ps) =
    let later = located_lines style start (behind p) ps in
    loc_labels (address_of p == here) here (address_of p) (line_at (address_of p) (piece_given style p) ∷ later)
    ∙ (ap (λ ls. map (λ name. (name, address_of p)) (symbols_if (style.marked (address_of p)) (address_of p)) ++ ls) (labels_are style start (behind p) ps)
    ∙ own_pair (style.marked (address_of p)) (address_of p) (pairs style.marked (heads ps)))

-- ---- no literals

loc_sizes : (m : Labels) (b : Bool) (here p : ℕ) (rest : List Located) → literal_sizes m (loc_if b (line_at here (loc_given p)) rest) ≡ literal_sizes m rest
loc_sizes m true here p rest = refl
loc_sizes m false here p rest = refl

pub no_sizes : (m : Labels) (style : Style) (start here : ℕ) (ps : List Piece) → literal_sizes m (located_lines style start here ps) ≡ []
unfolding located_lines
no_sizes m style start here [] = refl
no_sizes m style start here (p ∷ ps) =
    loc_sizes m (address_of p == here) here (address_of p) (line_at (address_of p) (piece_given style p) ∷ located_lines style start (behind p) ps)
    ∙ no_sizes m style start (behind p) ps

-- ---- LOC speaks of no label

data_settled : (above : List ℕ) (marked : ℕ → Bool) (o : Option Name) (w : ℕ) → is_count_settled above (data_in marked o w) ≡ true
data_settled above marked (Some name) w = refl
data_settled above marked None w = refl

piece_settled : (above : List ℕ) (style : Style) (p : Piece) → is_count_settled above (piece_data style p) ≡ true
piece_settled above style (pieces.Word a w) = data_settled above (shown style w) (name_of (w / 2 ^ 27)) w
piece_settled above style (pieces.Zeros a n) = refl
piece_settled above style (pieces.Text a text) = refl

loc_settled : (b : Bool) (above : List ℕ) (p : ℕ) (rest : List Line) → ((above : List ℕ) → are_settled above rest ≡ true)
    → are_settled above (loc_if b (loc_given p) rest) ≡ true
unfolding are_settled
loc_settled true above p rest h = h above
loc_settled false above p rest h = h (above ++ [])

pub settled : (style : Style) (start here : ℕ) (ps : List Piece) (above : List ℕ) → are_settled above (lines_given style start here ps) ≡ true
unfolding lines_given are_settled
settled style start here [] above = refl
settled style start here (p ∷ ps) above =
    loc_settled (address_of p == here) above (address_of p) (piece_given style p ∷ lines_given style start (behind p) ps)
    (λ above.
    let names = above ++ (piece_given style p).labels in
    rw (piece_settled names style p, settled style start (behind p) ps names) refl)

-- ---- what names stand for

abbrev pub placed_line : Labels → Located → Placed
placed_line m at = record { names = names_at m at.address []; line = at.line }

loc_placed : (m : Labels) (b : Bool) (here p : ℕ) (rest : List Located) → placed m rest [] ≡ map (placed_line m) rest
    → placed m (loc_if b (line_at here (loc_given p)) rest) [] ≡ map (placed_line m) (loc_if b (line_at here (loc_given p)) rest)
unfolding placed
loc_placed m true here p rest e = e
loc_placed m false here p rest e = ap (λ ls. placed_line m (line_at here (loc_given p)) ∷ ls) e

pub placed_is : (m : Labels) (style : Style) (start here : ℕ) (ps : List Piece)
    → placed m (located_lines style start here ps) [] ≡ map (placed_line m) (located_lines style start here ps)
unfolding located_lines placed
placed_is m style start here [] = refl
placed_is m style start here (p ∷ ps) =
    loc_placed m (address_of p == here) here (address_of p) (line_at (address_of p) (piece_given style p) ∷ located_lines style start (behind p) ps)
    (ap (λ ls. placed_line m (line_at (address_of p) (piece_given style p)) ∷ ls) (placed_is m style start (behind p) ps))

loc_allowed : (m : Labels) (b : Bool) (here p : ℕ) (rest : List Located) → p < 2 ^ 18 → are_allowed (map (placed_line m) rest) ≡ true
    → are_allowed (map (placed_line m) (loc_if b (line_at here (loc_given p)) rest)) ≡ true
loc_allowed m true here p rest h e = e
loc_allowed m false here p rest h e = rw (count-number (names_at m here []) p h, e) refl

pub allowed : (m : Labels) (style : Style) (start here least : ℕ) (ps : List Piece) → ArePieces least ps
    → are_allowed (map (placed_line m) (located_lines style start here ps)) ≡ true
unfolding located_lines
allowed m style start here least [] r = refl
allowed m style start here least (p ∷ ps) r =
    loc_allowed m (address_of p == here) here (address_of p) (line_at (address_of p) (piece_given style p) ∷ located_lines style start (behind p) ps) r.1
    (allowed m style start (behind p) (behind p) ps r.3)

-- ---- words

-- the map gives each marked address of a word
abbrev pub Knows : Labels → (ℕ → Bool) → Type 0
Knows m marked = (p : ℕ) → p < 2 ^ 18 → marked p ≡ true → lookup (nat_eq (symbol_at p)) m ≡ Some p

data_words : (names : Names) (marked : ℕ → Bool) (o : Option Name) (w : ℕ) → all_words_of names (data_in marked o w) ≡ words_of names (data_in marked o w)
unfolding all_words_of
data_words names marked (Some name) w = refl
data_words names marked None w = refl

word_words : (m : Labels) (style : Style) (a w : ℕ) → w < 2 ^ 36 → Knows m style.marked
    → words_from (names_at m a []) a (word_data (shown style w) w) ≡ Some ((a, w) ∷ [])
unfolding words_from
word_words m style a w h knows =
    let names = names_at m a [] in
    let small : right_half w < 2 ^ 18 = omega arith in
    ap (option_map (at_addresses a))
    (data_words names (shown style w) (name_of (w / 2 ^ 27)) w
    ∙ words_back names (shown style w) w h (λ e. knows (right_half w) small (and_parts (style.by_label w) (style.marked (right_half w)) e).1))

zero_words : (m : Labels) (a n : ℕ) → n ≤ 2 ^ 18
    → words_from (names_at m a []) a (data_of.Block (number_alone (read_number n))) ≡ Some (at_addresses a (replicate n 0))
unfolding words_from all_words_of
zero_words m a n h = ap (λ o. option_map (at_addresses a) (option_map (λ k. replicate k 0) o)) (count-size (names_at m a []) n h)

words_some : (text : List ℕ) (i n : ℕ) → text_words_from Asciz text i n ≡ Some (words_of_text text i n)
unfolding text_word
words_some text i zero = refl
words_some text i (suc n) = ap (λ o. o >>= λ ws. Some (ascii_word text (5 * i) ∷ ws)) (words_some text (i + 1) n)

asciz_words : (m : Labels) (a : ℕ) (text : List ℕ) → words_from (names_at m a []) a (data_of.Text Asciz text) ≡ Some (at_addresses a (text_words text))
unfolding words_from all_words_of words_of
asciz_words m a text = ap (option_map (at_addresses a)) (words_some text 0 (text_count text))

piece_words : (m : Labels) (style : Style) (p : Piece) → IsPiece p → Knows m style.marked
    → statement_words (names_at m (address_of p) []) (piece_given style p).statement ≡ Some (words_in p)
unfolding statement_words
piece_words m style (pieces.Word a w) is knows = word_words m style a w is knows
piece_words m style (pieces.Zeros a n) is knows =
    let few : n ≤ 2 ^ 18 = omega (arith, is.1) in
    zero_words m a n few
piece_words m style (pieces.Text a text) is knows = asciz_words m a text

loc_words : (m : Labels) (b : Bool) (here p : ℕ) (rest : List Located) (words : List (ℕ × ℕ))
    → all_statement_words (map (placed_line m) rest) ≡ Some words
    → all_statement_words (map (placed_line m) (loc_if b (line_at here (loc_given p)) rest)) ≡ Some words
unfolding all_statement_words statement_words
loc_words m true here p rest words e = e
loc_words m false here p rest words e = ap (λ o. o >>= λ more. Some more) e

end_words : (m : Labels) (here : ℕ) (style : Style) (start : ℕ) → statement_words (names_at m here []) (end_given style.marked start).statement ≡ Some []
unfolding statement_words
end_words m here style start = refl

statements_give : (m : Labels) (style : Style) (start here least : ℕ) (ps : List Piece) → ArePieces least ps → Knows m style.marked
    → all_statement_words (map (placed_line m) (located_lines style start here ps)) ≡ Some (flat_map words_in ps)
unfolding located_lines all_statement_words
statements_give m style start here least [] r knows =
    ap (λ o. o >>= λ first. Some (first ++ [])) (end_words m here style start)
statements_give m style start here least (p ∷ ps) r knows =
    let later = located_lines style start (behind p) ps in
    loc_words m (address_of p == here) here (address_of p) (line_at (address_of p) (piece_given style p) ∷ later) (flat_map words_in (p ∷ ps))
    (ap (λ o. o >>= λ first. all_statement_words (map (placed_line m) later) >>= λ more. Some (first ++ more)) (piece_words m style p r.2 knows)
    ∙ ap (λ o. o >>= λ more. Some (words_in p ++ more)) (statements_give m style start (behind p) (behind p) ps r.3 knows))

loc_no_literals : (m : Labels) (b : Bool) (here p : ℕ) (rest : List Located)
    → all_literal_words (map (placed_line m) rest) ≡ Some []
    → all_literal_words (map (placed_line m) (loc_if b (line_at here (loc_given p)) rest)) ≡ Some []
unfolding all_literal_words literal_words
loc_no_literals m true here p rest e = e
loc_no_literals m false here p rest e = ap (λ o. o >>= λ more. Some more) e

literals_give : (m : Labels) (style : Style) (start here : ℕ) (ps : List Piece)
    → all_literal_words (map (placed_line m) (located_lines style start here ps)) ≡ Some []
unfolding located_lines all_literal_words literal_words
literals_give m style start here [] = refl
literals_give m style start here (p ∷ ps) =
    loc_no_literals m (address_of p == here) here (address_of p) (line_at (address_of p) (piece_given style p) ∷ located_lines style start (behind p) ps)
    (ap (λ o. o >>= λ more. Some more) (literals_give m style start (behind p) ps))

nothing_more : (xs : List (ℕ × ℕ)) → xs ++ [] ≡ xs
nothing_more [] = refl
nothing_more (x ∷ xs) = ap (λ l. x ∷ l) (nothing_more xs)

pub words_given : (m : Labels) (style : Style) (start here least : ℕ) (ps : List Piece) → ArePieces least ps → Knows m style.marked
    → words_at (map (placed_line m) (located_lines style start here ps)) ≡ Some (flat_map words_in ps)
unfolding words_at
words_given m style start here least ps r knows =
    let lines = map (placed_line m) (located_lines style start here ps) in
    ap (λ o. o >>= λ own. all_literal_words lines >>= λ literals. Some (own ++ literals)) (statements_give m style start here least ps r knows)
    ∙ (ap (λ o. o >>= λ literals. Some (flat_map words_in ps ++ literals)) (literals_give m style start here ps)
    ∙ ap Some (nothing_more (flat_map words_in ps)))

-- ---- the start

loc_last : (m : Labels) (b : Bool) (here p : ℕ) (at : Located) (rest : List Located) (o : Option Placed)
    → last_or o (map (placed_line m) (loc_if b (line_at here (loc_given p)) (at ∷ rest))) ≡ last_or (Some (placed_line m at)) (map (placed_line m) rest)
loc_last m true here p at rest o = refl
loc_last m false here p at rest o = refl

last_is : (m : Labels) (style : Style) (start here : ℕ) (ps : List Piece) (o : Option Placed) (P : Option Placed → Type 0)
    → ((address : ℕ) → P (Some (placed_line m (line_at address (end_given style.marked start)))))
    → P (last_or o (map (placed_line m) (located_lines style start here ps)))
unfolding located_lines
last_is m style start here [] o P h = h here
last_is m style start here (p ∷ ps) o P h =
    let later = located_lines style start (behind p) ps in
    subst P (sym (loc_last m (address_of p == here) here (address_of p) (line_at (address_of p) (piece_given style p)) later o))
    (last_is m style start (behind p) ps (Some (placed_line m (line_at (address_of p) (piece_given style p)))) P h)

pub starts : (m : Labels) (style : Style) (start here : ℕ) (ps : List Piece) → start < 2 ^ 18 → Knows m style.marked
    → start_at (map (placed_line m) (located_lines style start here ps)) ≡ Some start
unfolding start_at
starts m style start here ps h knows =
    last_is m style start here ps None (λ o. start_from o ≡ Some start)
    (λ address. start-address (names_at m address []) (style.marked start) start h (λ e. knows start h e))
