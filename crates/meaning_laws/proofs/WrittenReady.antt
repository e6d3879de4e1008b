-- The pieces of an image with labels can be read.
use Rattle.std.proofs.Common.{◌≡◌, ◌∙◌, sym, ap, subst, ℕ, zero, suc, ◌+◌, ◌^◌, ◌<◌, ◌≤◌, ◌==◌, ◌&&◌, true, not}
use Rattle.std.proofs.Common.{List, [], ◌∷◌, ◌++◌, length, map, refl, arith}
use Rattle.std.specs.Prelude.{All, pos}
use Rattle.std.specs.List.{list_all}
use Rattle.std.proofs.lemmas.Bool.{and_parts}
use Rattle.mac_text.specs.Names.{symbol_of}
use Rattle.mac_layout.specs.Addresses.{are_apart}
use Rattle.image_files.specs.Images.{Rises, WordsFit}
use Rattle.meaning_laws.specs.WrittenLines.{at_places, words_of, names_of, is_line, is_sound, IsWritten, symbols_in}
use Rattle.meaning_laws.specs.WrittenSource.{Piece, Placed, IsLabel, CanBeWritten, piece_of}
use Rattle.meaning_laws.specs.WrittenSource.{with_labels, pieces_of, table_of}
use Rattle.meaning_laws.proofs.WrittenPieces.{symbols_of, AreWords, ArePieces, AreNames, AreNamed, AreReady}
use Rattle.meaning_laws.proofs.WrittenPieces.{single_are, bare_single, joined_are, named_joined, labels_are}
use Rattle.meaning_laws.proofs.WrittenApart.{labels_added, symbols_joined}

pub written_ready : (names : List Placed) (words : List (ℕ × ℕ)) (start : ℕ) → CanBeWritten names words start
    → AreReady (pieces_of names words) words
written_ready names words start can =
    let single = single_are 0 words can.image.rises can.fit in
    let bare = bare_single words in
    let marked = labels_are names (map piece_of words) (λ k d h. can.labels.each k d h) single.0 bare.0 in
    let all = joined_are (with_labels names (map piece_of words)) marked.pieces in
    record {
      pieces = all.0;
      named = named_joined (with_labels names (map piece_of words)) marked.named;
      apart =
          ap are_apart (symbols_joined (with_labels names (map piece_of words)))
          ∙ (labels_added names (map piece_of words) bare.1 can.labels.apart).apart;
      same = all.1 ∙ (marked.words ∙ single.1);
    }

-- ---- lines with these words and labels

-- words of 36 bits at places of memory
abbrev AreBelow : List (ℕ × ℕ) → Type 0
AreBelow [] = Unit {0}
AreBelow (x ∷ xs) = (x.0 < 2 ^ 18) × (x.1 < 2 ^ 36) × AreBelow xs

image_below : (least : ℕ) (words : List (ℕ × ℕ)) → Rises least words → WordsFit words → AreBelow words
image_below least [] rises fit = tt
image_below least (x ∷ xs) rises fit = (rises.1, fit 0 x (omega arith), image_below (x.0 + 1) xs rises.2 (λ k d h. fit (suc k) d (omega (arith, h))))

below_parts : (xs ys : List (ℕ × ℕ)) → AreBelow (xs ++ ys) → AreBelow xs × AreBelow ys
below_parts [] ys h = (tt, h)
below_parts (x ∷ xs) ys h = let later = below_parts xs ys h.2 in ((h.0, h.1, later.0), later.1)

-- names that can be labels, one after another
abbrev pub AreFree : List Placed → Type 0
AreFree [] = Unit {0}
AreFree (at ∷ more) = IsLabel at.place at.name × AreFree more

all_free : (names : List Placed) → All (λ at. IsLabel at.place at.name) names → AreFree names
all_free [] each = tt
all_free (at ∷ more) each = (each 0 at (omega arith), all_free more (λ k d h. each (suc k) d (omega (arith, h))))

pub free_all : (names : List Placed) → AreFree names → All (λ at. IsLabel at.place at.name) names
free_all [] free k d h = absurd (omega (arith, h))
free_all (at ∷ more) free zero d h = free.0
free_all (at ∷ more) free (suc k) d h = free_all more free.1 k d (omega (arith, h))

free_parts : (place : ℕ) (labels : List (List ℕ)) (more : List Placed) → AreFree (map (λ name. record { place = place; name = name }) labels ++ more)
    → AreNames place labels × AreFree more
free_parts place [] more h = (tt, h)
free_parts place (l ∷ ls) more h = let later = free_parts place ls more h.1 in ((h.0, later.0), later.1)

end_below : (place word : ℕ) (words : List ℕ) → AreBelow (at_places place (word ∷ words)) → place + length (word ∷ words) ≤ 2 ^ 18
end_below place word [] h = let low : place < 2 ^ 18 = h.0 in omega (arith, low)
end_below place word (next ∷ words) h =
    let later : place + 1 + length (next ∷ words) ≤ 2 ^ 18 = end_below (place + 1) next words h.2 in
    omega (arith, later)

some_label : (place : ℕ) (labels : List (List ℕ)) → AreNames place labels → not (length labels == 0) ≡ true → place < 2 ^ 18
some_label place [] are some = absurd (cc)
some_label place (l ∷ ls) are some = are.0.below

sound_words : (place : ℕ) (words : List ℕ) → AreBelow (at_places place words) → is_line words ≡ true → AreWords words
sound_words place [] h is = tt
sound_words place (w ∷ []) h is = h.1
sound_words place (w ∷ v ∷ ws) h is = is

sound_end : (place : ℕ) (words : List ℕ) (labels : List (List ℕ)) → AreBelow (at_places place words) → AreNames place labels
    → not (length words == 0 && length labels == 0) ≡ true → place + length words ≤ 2 ^ 18
sound_end place [] labels h are some = let low : place < 2 ^ 18 = some_label place labels are some in omega (arith, low)
sound_end place (w ∷ ws) labels h are some = end_below place w ws h

lines_are : (ps : List Piece) → list_all is_sound ps ≡ true → AreBelow (words_of ps) → AreFree (names_of ps) → ArePieces ps × AreNamed ps
lines_are [] sound below free = (tt, tt)
lines_are (p ∷ ps) sound below free =
    let parts = and_parts (is_sound p) (list_all is_sound ps) sound in
    let own = and_parts (is_line p.words) (not (length p.words == 0 && length p.labels == 0)) parts.0 in
    let words = below_parts (at_places p.place p.words) (words_of ps) below in
    let names = free_parts p.place p.labels (names_of ps) free in
    let later = lines_are ps parts.1 words.1 names.1 in (
      (record { words = sound_words p.place p.words words.0 own.0; below = sound_end p.place p.words p.labels words.0 names.0 own.1 }, later.0),
      (names.0, later.1),
    )

symbols_with : (place : ℕ) (labels : List (List ℕ)) (more : List Placed)
    → map (λ at. symbol_of at.name) (map (λ name. record { place = place; name = name }) labels ++ more)
    ≡ map symbol_of labels ++ map (λ at. symbol_of at.name) more
symbols_with place [] more = refl
symbols_with place (l ∷ ls) more = ap (λ ss. symbol_of l ∷ ss) (symbols_with place ls more)

symbols_are : (ps : List Piece) → map (λ at. symbol_of at.name) (names_of ps) ≡ symbols_of ps
symbols_are [] = refl
symbols_are (p ∷ ps) = symbols_with p.place p.labels (names_of ps) ∙ ap (λ ss. map symbol_of p.labels ++ ss) (symbols_are ps)

table_with : (place : ℕ) (labels : List (List ℕ)) (more : List Placed)
    → symbols_in (map (λ name. record { place = place; name = name }) labels ++ more)
    ≡ map (λ name. (symbol_of name, pos place)) labels ++ symbols_in more
table_with place [] more = refl
table_with place (l ∷ ls) more = ap (λ ss. (symbol_of l, pos place) ∷ ss) (table_with place ls more)

pub table_is : (ps : List Piece) → symbols_in (names_of ps) ≡ table_of ps
table_is [] = refl
table_is (p ∷ ps) =
    table_with p.place p.labels (names_of ps) ∙ ap (λ ss. map (λ name. (symbol_of name, pos p.place)) p.labels ++ ss) (table_is ps)

pub lines_ready : (text : List ℕ) (names : List Placed) (words : List (ℕ × ℕ)) (start : ℕ) → (is : IsWritten text names words start)
    → CanBeWritten names words start → AreReady is.pieces words
lines_ready text names words start is can =
    let below = subst AreBelow (sym is.words_are) (image_below 0 words can.image.rises can.fit) in
    let free = subst AreFree (sym is.names_are) (all_free names (λ k d h. can.labels.each k d h)) in
    let are = lines_are is.pieces is.sound below free in
    record {
      pieces = are.0;
      named = are.1;
      apart = ap are_apart (sym (symbols_are is.pieces) ∙ ap (λ ns. map (λ at. symbol_of at.name) ns) is.names_are) ∙ can.labels.apart;
      same = is.words_are;
    }
