-- The source of an image has that image.
use Rattle.std.proofs.Common.{◌≡◌, ◌∙◌, sym, ap, subst, ℕ, zero, suc, ◌+◌, ◌^◌, ◌<◌, ◌≤◌, ◌≢◌, ◌==◌, Bool, true, false, ◌||◌, nat_eq, nat_lt, ◌&&◌, List, [], ◌∷◌}
use Rattle.std.proofs.Common.{map, filter_map, Some, None, option_map, Ok, refl, arith, ◌⊎◌, inl, inr, if◌then◌else◌}
use Rattle.std.specs.Prelude.{flat_map}
use Rattle.std.specs.List.{list_any, range_with_len, cons_option}
use Rattle.std.specs.Map.{lookup, keys_of, values_of}
use Rattle.std.proofs.lemmas.Bool.{and_parts, ne_eqb, eqb-true, lt-ltb}
use Rattle.std.proofs.lemmas.Bool.Decides.{nat_tests}
use Rattle.std.proofs.lemmas.Grind.{common_steps}
use Rattle.std.proofs.Math.Nat.{eq-or-lt_of_le}
use Rattle.mac_layout.specs.Addresses.{Labels, labels_at, literal_sizes, placed, addresses_from, are_apart, first_address, address_after}
use Rattle.mac_asm.specs.Assembly.{Assembled, IsAssembly, lines_at, lines_placed, words_at, word_at, by_address, are_allowed, are_below, have_words, start_at}
use Rattle.mac_asm.specs.Outcome.{outcome_of}
use Rattle.asm_laws.proofs.Told.{image-told}
use Rattle.image_files.specs.Images.{IsImage, WordsFit}
use Rattle.mac_source.proofs.PlacedWords.{AreWords, are_words}
use Rattle.mac_source.specs.Sources.{Style, ArePrinting, AreThere, has_word, can_have_label, is_referred, refers_to, style_with, pieces_in, source_with, source_of}
use Rattle.mac_source.specs.declared.shown.Shown.{Shown}
use Rattle.mac_source.proofs.PieceLemmas.{ArePieces, are_pieces, pieces_words, heads, heads_are, begins}
use Rattle.mac_source.proofs.LabelTexts.{label_tells}
use Rattle.mac_source.proofs.NoteTexts.{style_printing}
use Rattle.mac_source.proofs.Given.{symbol_at, lines_given}
use Rattle.mac_source.proofs.WholeSources.{source_read}
use Rattle.mac_source.proofs.Addresses.{located_lines, located_is, pair_if, pairs, labels_are, no_sizes, settled, placed_line, placed_is, allowed, Knows, words_given, starts}

equal : (a : ℕ) → nat_eq a a ≡ true
equal a = grind (arith, common_steps)

-- ---- labels

other_symbol : (p q : ℕ) → p < 2 ^ 18 → q < 2 ^ 18 → p ≢ q → nat_eq (symbol_at p) (symbol_at q) ≡ false
other_symbol p q h k ne = ne_eqb (symbol_at p) (symbol_at q) (λ e. ne (label_tells p q h k e))

fresh_if : (b : Bool) (q p : ℕ) (rest : Labels) → nat_eq (symbol_at q) (symbol_at p) ≡ false → list_any (nat_eq (symbol_at q)) (keys_of rest) ≡ false
    → list_any (nat_eq (symbol_at q)) (keys_of (pair_if b p rest)) ≡ false
fresh_if true q p rest h k = rw (h, k) refl
fresh_if false q p rest h k = k

-- a address before all others has a label of its own
fresh : (marked : ℕ → Bool) (q least : ℕ) (xs : List (ℕ × ℕ)) → q < least → q < 2 ^ 18 → AreWords least xs
    → list_any (nat_eq (symbol_at q)) (keys_of (pairs marked xs)) ≡ false
unfolding pairs
fresh marked q least [] h k r = refl
fresh marked q least (x ∷ xs) h k r =
    let low : least ≤ x.0 = r.0 in
    let before : q < x.0 + 1 = omega arith in
    fresh_if (marked x.0) q x.0 (pairs marked xs) (other_symbol q x.0 k r.1 (λ e. omega arith))
    (fresh marked q (x.0 + 1) xs before k r.3)

apart_if : (b : Bool) (p : ℕ) (rest : Labels) → list_any (nat_eq (symbol_at p)) (keys_of rest) ≡ false → are_apart (keys_of rest) ≡ true
    → are_apart (keys_of (pair_if b p rest)) ≡ true
unfolding are_apart
apart_if true p rest h k = rw (h, k) refl
apart_if false p rest h k = k

labels_apart : (marked : ℕ → Bool) (least : ℕ) (xs : List (ℕ × ℕ)) → AreWords least xs → are_apart (keys_of (pairs marked xs)) ≡ true
unfolding pairs are_apart
labels_apart marked least [] r = refl
labels_apart marked least (x ∷ xs) r =
    let next : x.0 < x.0 + 1 = omega arith in
    apart_if (marked x.0) x.0 (pairs marked xs) (fresh marked x.0 (x.0 + 1) xs next r.1 r.3) (labels_apart marked (x.0 + 1) xs r.3)

below_if : (b : Bool) (p : ℕ) (rest : Labels) → p < 2 ^ 18 → are_below (values_of rest) ≡ true → are_below (values_of (pair_if b p rest)) ≡ true
below_if true p rest h k = rw (lt-ltb p (2 ^ 18) h, k) refl
below_if false p rest h k = k

labels_below : (marked : ℕ → Bool) (least : ℕ) (xs : List (ℕ × ℕ)) → AreWords least xs → are_below (values_of (pairs marked xs)) ≡ true
unfolding pairs
labels_below marked least [] r = refl
labels_below marked least (x ∷ xs) r = below_if (marked x.0) x.0 (pairs marked xs) r.1 (labels_below marked (x.0 + 1) xs r.3)

known_here : (b : Bool) (p : ℕ) (rest : Labels) → b ≡ true → lookup (nat_eq (symbol_at p)) (pair_if b p rest) ≡ Some p
known_here true p rest h = rw (equal (symbol_at p)) refl
known_here false p rest h = absurd (cc)

known_later : (b : Bool) (q p : ℕ) (rest : Labels) → nat_eq (symbol_at q) (symbol_at p) ≡ false → lookup (nat_eq (symbol_at q)) rest ≡ Some q
    → lookup (nat_eq (symbol_at q)) (pair_if b p rest) ≡ Some q
known_later true q p rest h k = rw h k
known_later false q p rest h k = k

other_address : (p q : ℕ) → (p == q) ≡ false → q ≢ p
other_address p q h e = grind (arith, nat_tests)

known_step : (marked : ℕ → Bool) (q : ℕ) (x : ℕ × ℕ) (xs : List (ℕ × ℕ)) (b : Bool) → (x.0 == q) ≡ b → q < 2 ^ 18 → x.0 < 2 ^ 18 → marked q ≡ true
    → (b || has_word xs q) ≡ true
    → (has_word xs q ≡ true → lookup (nat_eq (symbol_at q)) (pairs marked xs) ≡ Some q)
    → lookup (nat_eq (symbol_at q)) (pair_if (marked x.0) x.0 (pairs marked xs)) ≡ Some q
known_step marked q x xs true e h k m there later =
    let is : x.0 ≡ q = eqb-true x.0 q e in
    subst (λ (r : ℕ). lookup (nat_eq (symbol_at r)) (pair_if (marked x.0) x.0 (pairs marked xs)) ≡ Some r) is
    (known_here (marked x.0) x.0 (pairs marked xs) (ap marked is ∙ m))
known_step marked q x xs false e h k m there later =
    known_later (marked x.0) q x.0 (pairs marked xs) (other_symbol q x.0 h k (other_address x.0 q e)) (later there)

known : (marked : ℕ → Bool) (q least : ℕ) (xs : List (ℕ × ℕ)) → AreWords least xs → q < 2 ^ 18 → marked q ≡ true → has_word xs q ≡ true
    → lookup (nat_eq (symbol_at q)) (pairs marked xs) ≡ Some q
unfolding pairs
known marked q least [] r h m there = absurd (cc)
known marked q least (x ∷ xs) r h m there =
    known_step marked q x xs (x.0 == q) refl h r.1 m there (λ later. known marked q (x.0 + 1) xs r.3 h m later)

-- ---- words

words_below : (least : ℕ) (xs : List (ℕ × ℕ)) → AreWords least xs → are_below (keys_of xs) ≡ true
words_below least [] r = refl
words_below least (x ∷ xs) r = rw (lt-ltb x.0 (2 ^ 18) r.1, words_below (x.0 + 1) xs r.3) refl

no_word : (q least : ℕ) (xs : List (ℕ × ℕ)) → q < least → AreWords least xs → list_any (nat_eq q) (keys_of xs) ≡ false
no_word q least [] h r = refl
no_word q least (x ∷ xs) h r =
    let low : least ≤ x.0 = r.0 in
    let next : q < x.0 + 1 = omega arith in
    rw (ne_eqb q x.0 (λ e. omega arith), no_word q (x.0 + 1) xs next r.3) refl

words_apart : (least : ℕ) (xs : List (ℕ × ℕ)) → AreWords least xs → are_apart (keys_of xs) ≡ true
unfolding are_apart
words_apart least [] r = refl
words_apart least (x ∷ xs) r =
    let next : x.0 < x.0 + 1 = omega arith in
    rw (no_word x.0 (x.0 + 1) xs next r.3, words_apart (x.0 + 1) xs r.3) refl

-- words that rise from a address on are those found from there on
abbrev found : List (ℕ × ℕ) → ℕ → ℕ → List (ℕ × ℕ)
found words a n = filter_map (word_at words) (range_with_len a n)

none_found : (q least : ℕ) (xs : List (ℕ × ℕ)) → q < least → AreWords least xs → lookup (nat_eq q) xs ≡ None
none_found q least [] h r = refl
none_found q least (x ∷ xs) h r =
    let low : least ≤ x.0 = r.0 in
    let next : q < x.0 + 1 = omega arith in
    rw (ne_eqb q x.0 (λ e. omega arith)) (none_found q (x.0 + 1) xs next r.3)

-- a word before the range changes nothing
past : (x : ℕ × ℕ) (xs : List (ℕ × ℕ)) (a n : ℕ) → x.0 < a → found (x ∷ xs) a n ≡ found xs a n
past x xs a zero h = refl
past x xs a (suc n) h =
    let next : x.0 < a + 1 = omega arith in
    ap (λ b. cons_option (option_map (λ word. (a, word)) (if b then Some x.1 else lookup (nat_eq a) xs)) (found (x ∷ xs) (a + 1) n)) (ne_eqb a x.0 (λ e. omega arith))
    ∙ ap (λ l. cons_option (word_at xs a) l) (past x xs (a + 1) n next)

found_here : (x : ℕ × ℕ) (xs : List (ℕ × ℕ)) (a n : ℕ) → x.0 ≡ a → found xs (a + 1) n ≡ xs → found (x ∷ xs) a (suc n) ≡ x ∷ xs
found_here x xs a n e rest =
    let next : x.0 < a + 1 = omega arith in
    let hit : nat_eq a x.0 ≡ true = ap (nat_eq a) e ∙ equal a in
    ap (λ b. cons_option (option_map (λ word. (a, word)) (if b then Some x.1 else lookup (nat_eq a) xs)) (found (x ∷ xs) (a + 1) n)) hit
    ∙ (ap (λ l. (a, x.1) ∷ l) (past x xs (a + 1) n next ∙ rest)
    ∙ ap (λ p. (p, x.1) ∷ xs) (sym e))

found_later : (xs : List (ℕ × ℕ)) (a n : ℕ) → lookup (nat_eq a) xs ≡ None → found xs (a + 1) n ≡ xs → found xs a (suc n) ≡ xs
found_later xs a n e rest = ap (λ o. cons_option (option_map (λ word. (a, word)) o) (found xs (a + 1) n)) e ∙ rest

address_case : (a p : ℕ) → a ≤ p → (p ≡ a) ⊎ (a + 1 ≤ p)
address_case a p h = elim (eq-or-lt_of_le h) [ inl e ↦ inl (sym e) | inr k ↦ inr (omega arith) ]

all_found : (n a : ℕ) (xs : List (ℕ × ℕ)) → a + n ≡ 2 ^ 18 → AreWords a xs → found xs a n ≡ xs
all_found zero a [] e r = refl
all_found zero a (x ∷ xs) e r = absurd (omega (arith, r.0, r.1))
all_found (suc n) a [] e r = found_later [] a n refl (all_found n (a + 1) [] (omega arith) tt)
all_found (suc n) a (x ∷ xs) e r =
    let sum : a + 1 + n ≡ 2 ^ 18 = omega arith in
    elim (address_case a x.0 r.0) [
      | inl here ↦ found_here x xs a n here (all_found n (a + 1) xs sum (subst (λ (p : ℕ). AreWords (p + 1) xs) here r.3))
      | inr later ↦
          let next : a < a + 1 = omega arith in
          let rises : AreWords (a + 1) (x ∷ xs) = (later, r.1, r.2, r.3) in
          found_later (x ∷ xs) a n (none_found a (a + 1) (x ∷ xs) next rises) (all_found n (a + 1) (x ∷ xs) sum rises)
    ]

pub by_address_same : (xs : List (ℕ × ℕ)) → AreWords 0 xs → by_address xs ≡ xs
unfolding by_address
by_address_same xs r = all_found (2 ^ 18) 0 xs refl r

-- ---- the whole

pub is_assembly : (style : Style) (image : Assembled) → IsImage image.words image.start → WordsFit image.words → AreThere style.marked image.words → ArePrinting style
    → IsAssembly (source_with style image) image
unfolding addresses_from
is_assembly style image is fit there ok =
    let words : AreWords 0 image.words = are_words 0 image.words is.rises fit in
    let ps = pieces_in style image in
    let made : ArePieces 0 ps = are_pieces style.blocks style.texts style.marked 0 image.words words in
    let begun : AreWords 0 (heads ps) = heads_are 0 ps made in
    let m = pairs style.marked (heads ps) in
    let lines = lines_given style image.start first_address ps in
    let stand = located_lines style image.start first_address ps in
    let where_ : lines_at m lines ≡ stand = located_is m style image.start first_address 0 ps made in
    let sizes : literal_sizes m (lines_at m lines) ≡ [] = ap (literal_sizes m) where_ ∙ no_sizes m style image.start first_address ps in
    let names : lines_placed m lines ≡ map (placed_line m) stand =
    ap (placed m (lines_at m lines)) (ap (addresses_from (address_after m first_address lines)) sizes)
    ∙ (ap (λ ls. placed m ls []) where_ ∙ placed_is m style image.start first_address ps) in
    let knows : Knows m style.marked = λ p h e.
    known style.marked p 0 (heads ps) begun h e (begins style.blocks style.texts style.marked p image.words e (there p e)) in
    record {
      lines = lines;
      labels = m;
      words = image.words;
      reads = source_read style ok image made;
      is_map = sym (ap (flat_map labels_at) where_ ∙ labels_are style image.start first_address ps);
      once = labels_apart style.marked 0 (heads ps) begun;
      settled = settled style image.start first_address ps [];
      literals = ap have_words sizes;
      allowed = ap are_allowed names ∙ allowed m style image.start first_address 0 ps made;
      gives =
          ap words_at names
          ∙ (words_given m style image.start first_address 0 ps made knows
          ∙ ap Some (pieces_words style.blocks style.texts style.marked image.words));
      labels_below = labels_below style.marked 0 (heads ps) begun;
      words_below = words_below 0 image.words words;
      words_apart = words_apart 0 image.words words;
      words_are = sym (by_address_same image.words words);
      start_is = ap start_at names ∙ starts m style image.start first_address ps is.start_fits knows;
    }

pub comes_to : (style : Style) (image : Assembled) → IsImage image.words image.start → WordsFit image.words → AreThere style.marked image.words → ArePrinting style
    → outcome_of (source_with style image) ≡ Ok image
comes_to style image is fit there ok = image-told (source_with style image) image (is_assembly style image is fit there ok)

abbrev own_marks : Bool → Assembled → ℕ → Bool
own_marks labels image address = labels && is_referred image address

marks_there : (labels : Bool) (image : Assembled) → AreThere (own_marks labels image) image.words
marks_there labels image address h =
    let referred = and_parts labels (is_referred image address) h in
    let able =
    and_parts (can_have_label image.words address) (image.start == address || list_any (refers_to address) image.words) referred.1 in
    (and_parts (nat_lt 0o17 address) (has_word image.words address) able.0).1

pub source_assembles : (shown : Shown) (image : Assembled) → IsImage image.words image.start → WordsFit image.words → IsAssembly (source_of shown image) image
source_assembles shown image is fit =
    is_assembly (style_with (own_marks shown.labels image) shown) image is fit (marks_there shown.labels image)
    (style_printing (own_marks shown.labels image) shown)

pub source_comes_to : (shown : Shown) (image : Assembled) → IsImage image.words image.start → WordsFit image.words → outcome_of (source_of shown image) ≡ Ok image
source_comes_to shown image is fit =
    comes_to (style_with (own_marks shown.labels image) shown) image is fit (marks_there shown.labels image)
    (style_printing (own_marks shown.labels image) shown)
