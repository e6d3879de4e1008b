-- The pieces of an image: their words, one after another, are those of the image.
use Rattle.std.proofs.Common.{◌≡◌, ℕ, suc, ◌+◌, ◌^◌, ◌<◌, ◌≤◌, ◌==◌, ◌&&◌, List, [], ◌∷◌, ◌++◌, Bool, true, false, length, length-append}
use Rattle.std.proofs.Common.{map, replicate}
use Rattle.std.proofs.Common.{refl, sym, ap, subst, ◌∙◌, arith, append_assoc}
use Rattle.std.specs.Prelude.{nat_lt, All}
use Rattle.std.proofs.lemmas.Bool.{and_parts, eqb-true, ltb-true}
use Rattle.std.proofs.lemmas.List.Folds.{list_all-append}
use Rattle.mac_text.specs.Names.{symbol_of}
use Rattle.mac_layout.specs.Addresses.{are_apart}
use Rattle.image_files.specs.Images.{Rises, WordsFit}
pub use Rattle.meaning_laws.specs.WrittenLines.{at_places, words_of}
use Rattle.meaning_laws.specs.WrittenSource.{Piece, after, are_zeros, IsLabel, joins, with_words, with_piece, joined, piece_of}
use Rattle.meaning_laws.specs.WrittenSource.{Placed, labelled, piece_at, with_label, with_labels}

abbrev pub symbols_of : List Piece → List ℕ
symbols_of [] = []
symbols_of (p ∷ ps) = map symbol_of p.labels ++ symbols_of ps

-- no words, one word of 36 bits, or words of 0
abbrev pub AreWords : List ℕ → Type 0
AreWords [] = Unit {0}
AreWords (word ∷ []) = word < 2 ^ 36
AreWords (word ∷ next ∷ words) = are_zeros (word ∷ next ∷ words) ≡ true

-- a piece that has no place above the last
pub record IsPiece (p : Piece) : Type 0 where
  pub words : AreWords p.words
  pub below : after p ≤ 2 ^ 18

abbrev pub ArePieces : List Piece → Type 0
ArePieces [] = Unit {0}
ArePieces (p ∷ ps) = IsPiece p × ArePieces ps

abbrev pub AreNames : ℕ → List (List ℕ) → Type 0
AreNames place [] = Unit {0}
AreNames place (name ∷ names) = IsLabel place name × AreNames place names

-- the labels of pieces can be labels at their places
abbrev pub AreNamed : List Piece → Type 0
AreNamed [] = Unit {0}
AreNamed (p ∷ ps) = AreNames p.place p.labels × AreNamed ps

-- pieces that can be read: their words are these, and their labels are each of another symbol
pub record AreReady (ps : List Piece) (words : List (ℕ × ℕ)) : Type 0 where
  pub pieces : ArePieces ps
  pub named : AreNamed ps
  pub apart : are_apart (symbols_of ps) ≡ true
  pub same : words_of ps ≡ words

-- ---- joined pieces

pub zeros_are : (words : List ℕ) → are_zeros words ≡ true → words ≡ replicate (length words) 0
zeros_are [] h = refl
zeros_are (w ∷ ws) h =
    let parts = and_parts (w == 0) (are_zeros ws) h in
    ap (λ v. v ∷ ws) (eqb-true w 0 parts.0) ∙ ap (λ vs. 0 ∷ vs) (zeros_are ws parts.1)

pub record AreJoined (p q : Piece) : Type 0 where
  pub next : q.place ≡ p.place + 1
  pub labels : length q.labels ≡ 0
  pub one : length p.words ≡ 1
  pub some : 0 < length q.words
  pub zero_first : are_zeros p.words ≡ true
  pub zeros : are_zeros q.words ≡ true

pub joined_parts : (p q : Piece) → joins p q ≡ true → AreJoined p q
joined_parts p q h =
    let place = q.place == p.place + 1 in
    let bare = length q.labels == 0 in
    let one = length p.words == 1 in
    let some = nat_lt 0 (length q.words) in
    let sizes = one && some in
    let zeros = are_zeros p.words && are_zeros q.words in
    let all = and_parts (place && bare) (sizes && zeros) h in
    let first = and_parts place bare all.0 in
    let second = and_parts sizes zeros all.1 in
    let counts = and_parts one some second.0 in
    let both = and_parts (are_zeros p.words) (are_zeros q.words) second.1 in
    record {
      next = eqb-true q.place (p.place + 1) first.0;
      labels = eqb-true (length q.labels) 0 first.1;
      one = eqb-true (length p.words) 1 counts.0;
      some = ltb-true 0 (length q.words) counts.1;
      zero_first = both.0;
      zeros = both.1;
    }

zeros_words : (words : List ℕ) → are_zeros words ≡ true → AreWords words
zeros_words [] h = tt
zeros_words (w ∷ []) h =
    let zero_word : w ≡ 0 = eqb-true w 0 (and_parts (w == 0) true h).0 in
    omega (arith, zero_word)
zeros_words (w ∷ v ∷ ws) h = h

both_words : (p q : Piece) → AreJoined p q → AreWords (p.words ++ q.words)
both_words p q j =
    zeros_words (p.words ++ q.words) (list_all-append (λ word. word == 0) p.words q.words ∙ rw (j.zero_first, j.zeros) refl)

pub at_places_append : (place : ℕ) (xs ys : List ℕ) → at_places place (xs ++ ys) ≡ at_places place xs ++ at_places (place + length xs) ys
at_places_append place [] ys = let same : place ≡ place + 0 = omega arith in ap (λ a. at_places a ys) same
at_places_append place (x ∷ xs) ys =
    let more : place + 1 + length xs ≡ place + length (x ∷ xs) = omega arith in
    ap (λ l. (place, x) ∷ l) (at_places_append (place + 1) xs ys ∙ ap (λ a. at_places (place + 1) xs ++ at_places a ys) more)

joined_if : (b : Bool) (p q : Piece) (ps : List Piece) → (b ≡ true → AreJoined p q) → IsPiece p → ArePieces (q ∷ ps)
    → ArePieces (with_words b p q ps) × (words_of (with_words b p q ps) ≡ at_places p.place p.words ++ words_of (q ∷ ps))
joined_if true p q ps h is are =
    let j = h refl in
    let size : length (p.words ++ q.words) ≡ length p.words + length q.words = length-append p.words q.words in
    let place : p.place + length p.words ≡ q.place = omega (arith, j.one, j.next) in
    let below : q.place + length q.words ≤ 2 ^ 18 = are.0.below in (
      (record { words = both_words p q j; below = omega (arith, size, place, below) }, are.1),
      ap (λ l. l ++ words_of ps)
          (at_places_append p.place p.words q.words ∙ ap (λ a. at_places p.place p.words ++ at_places a q.words) place)
          ∙ append_assoc (at_places p.place p.words) (at_places q.place q.words) (words_of ps),
    )
joined_if false p q ps h is are = ((is, are), refl)

with_first : (p : Piece) (ps : List Piece) → IsPiece p → ArePieces ps
    → ArePieces (with_piece p ps) × (words_of (with_piece p ps) ≡ at_places p.place p.words ++ words_of ps)
with_first p [] is are = ((is, tt), refl)
with_first p (q ∷ ps) is are = joined_if (joins p q) p q ps (joined_parts p q) is are

pub joined_are : (ps : List Piece) → ArePieces ps → ArePieces (joined ps) × (words_of (joined ps) ≡ words_of ps)
joined_are [] are = (tt, refl)
joined_are (p ∷ ps) are =
    let later = joined_are ps are.1 in
    let first = with_first p (joined ps) are.0 later.0 in
    (first.0, first.1 ∙ ap (λ l. at_places p.place p.words ++ l) later.1)

-- ---- a piece a word

pub single_are : (least : ℕ) (words : List (ℕ × ℕ)) → Rises least words → WordsFit words
    → ArePieces (map piece_of words) × (words_of (map piece_of words) ≡ words)
single_are least [] rises fit = (tt, refl)
single_are least (x ∷ xs) rises fit =
    let later = single_are (x.0 + 1) xs rises.2 (λ k d h. fit (suc k) d (omega arith)) in
    let low : x.0 < 2 ^ 18 = rises.1 in
    ((record { words = fit 0 x (omega arith); below = omega (arith, low) }, later.0), ap (λ l. x ∷ l) later.1)

-- ---- labels

named_if : (b : Bool) (p q : Piece) (ps : List Piece) → AreNamed (p ∷ q ∷ ps) → AreNamed (with_words b p q ps)
named_if true p q ps named = (named.0, named.1.1)
named_if false p q ps named = named

named_first : (p : Piece) (ps : List Piece) → AreNames p.place p.labels → AreNamed ps → AreNamed (with_piece p ps)
named_first p [] first named = (first, tt)
named_first p (q ∷ ps) first named = named_if (joins p q) p q ps (first, named)

pub named_joined : (ps : List Piece) → AreNamed ps → AreNamed (joined ps)
named_joined [] named = tt
named_joined (p ∷ ps) named = named_first p (joined ps) named.0 (named_joined ps named.1)

pub bare_single : (words : List (ℕ × ℕ)) → AreNamed (map piece_of words) × (symbols_of (map piece_of words) ≡ [])
bare_single [] = (tt, refl)
bare_single (x ∷ xs) = let later = bare_single xs in ((tt, later.0), later.1)

-- pieces with more labels and the same words
pub record AreMarked (before ps : List Piece) : Type 0 where
  pub pieces : ArePieces ps
  pub named : AreNamed ps
  pub words : words_of ps ≡ words_of before

alone_is : (at : Placed) → IsLabel at.place at.name → IsPiece (piece_at at) × AreNames at.place (at.name ∷ [])
alone_is at is = let low : at.place < 2 ^ 18 = is.below in (record { words = tt; below = omega (arith, low) }, (is, tt))

marked_if : (here first : Bool) (at : Placed) (p : Piece) (ps : List Piece) → (p.place == at.place) ≡ here → IsLabel at.place at.name
    → ArePieces (p ∷ ps) → AreNamed (p ∷ ps) → AreMarked ps (with_label at ps)
    → AreMarked (p ∷ ps) (elim here [
      | true ↦ labelled at p ∷ ps
      | false ↦ elim first [ true ↦ piece_at at ∷ p ∷ ps | false ↦ p ∷ with_label at ps ]
    ])
marked_if true first at p ps e is are named later =
    let same : at.place ≡ p.place = sym (eqb-true p.place at.place e) in
    record {
      pieces = (record { words = are.0.words; below = are.0.below }, are.1);
      named = ((subst (λ (a : ℕ). IsLabel a at.name) same is, named.0), named.1);
      words = refl;
    }
marked_if false true at p ps e is are named later =
    let alone = alone_is at is in
    record { pieces = (alone.0, are); named = (alone.1, named); words = refl }
marked_if false false at p ps e is are named later =
    record {
      pieces = (are.0, later.pieces);
      named = (named.0, later.named);
      words = ap (λ l. at_places p.place p.words ++ l) later.words;
    }

label_is : (at : Placed) (ps : List Piece) → IsLabel at.place at.name → ArePieces ps → AreNamed ps → AreMarked ps (with_label at ps)
label_is at [] is are named =
    let alone = alone_is at is in
    record { pieces = (alone.0, tt); named = (alone.1, tt); words = refl }
label_is at (p ∷ ps) is are named =
    marked_if (p.place == at.place) (nat_lt at.place p.place) at p ps refl is are named (label_is at ps is are.1 named.1)

pub labels_are : (names : List Placed) (ps : List Piece) → All (λ at. IsLabel at.place at.name) names → ArePieces ps → AreNamed ps
    → AreMarked ps (with_labels names ps)
labels_are [] ps each are named = record { pieces = are; named = named; words = refl }
labels_are (at ∷ names) ps each are named =
    let later = labels_are names ps (λ k d h. each (suc k) d (omega (arith, h))) are named in
    let first = label_is at (with_labels names ps) (each 0 at (omega arith)) later.pieces later.named in
    record { pieces = first.pieces; named = first.named; words = first.words ∙ later.words }
