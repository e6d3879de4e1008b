-- The pieces of words have exactly these words, and stand apart.
use Rattle.std.proofs.Common.{◌≡◌, ◌∙◌, sym, ap, subst, ℕ, zero, suc, ◌+◌, ◌-◌, ◌*◌, ◌/◌, ◌%◌, ◌^◌, ◌<◌, ◌≤◌, ◌==◌, Bool, true, false, ◌&&◌, ◌||◌, not, nat_lt, List, [], ◌∷◌, ◌++◌}
use Rattle.std.proofs.Common.{lit<, length, map, refl, arith, if◌then◌else◌}
use Rattle.std.specs.Prelude.{flat_map, replicate, slice_index}
use Rattle.std.specs.List.{list_all}
use Rattle.std.proofs.lemmas.Bool.{and_parts, eqb-true, ltb-true}
use Rattle.std.proofs.lemmas.Bool.Decides.{nat_tests}
use Rattle.std.proofs.lemmas.List.Folds.{list_all-append}
use Rattle.mac_asm.specs.Assembly.{at_addresses}
use Rattle.mac_asm.specs.Packing.{ascii_word}
use Rattle.image_files.specs.Images.{Rises}
use Rattle.mac_source.specs.declared.pieces.Piece.{Piece}
use Rattle.mac_source.specs.declared.pieces.Piece.TheVariants as pieces
use Rattle.mac_source.specs.Notes.{ascii_text}
use Rattle.mac_source.specs.Pieces.{is_text_character, before_zero, text_in, reads_as_text, is_full, is_end, text_words_from, text_count, text_words}
use Rattle.mac_source.specs.Pieces.{first, address_of, count, behind, words_in, is_zeros, is_next, alone, joins_zeros, ends_text, joins_text, text_of}
use Rattle.mac_source.specs.Pieces.{zeros_at, rest_before, text_if, zeros_if, join_if, with_word, pieces_of, ArePlaced}
use Rattle.mac_source.specs.Sources.{has_word}
use Rattle.mac_source.proofs.PlacedWords.{AreWords}

-- a word of 36 bits, at least one word of 0, or a text, below 2 ^ 18
abbrev pub IsPiece : Piece → Type 0
IsPiece (pieces.Word a w) = w < 2 ^ 36
IsPiece (pieces.Zeros a n) = (0 < n) × (a + n ≤ 2 ^ 18)
IsPiece (pieces.Text a text) = (list_all is_text_character text ≡ true) × (a + text_count text ≤ 2 ^ 18)

abbrev pub ArePieces : ℕ → List Piece → Type 0
ArePieces least [] = Unit {0}
ArePieces least (p ∷ ps) = (least ≤ address_of p) × (address_of p < 2 ^ 18) × IsPiece p × ArePieces (behind p) ps

-- ---- tests

next_at : (marked : ℕ → Bool) (x : ℕ × ℕ) (p : Piece) → is_next marked x p ≡ true → (address_of p ≡ x.0 + 1) × (not (marked (address_of p)) ≡ true)
next_at marked x p h =
    let both = and_parts (address_of p == x.0 + 1) (not (marked (address_of p))) h in
    (eqb-true (address_of p) (x.0 + 1) both.0, both.1)

zeros_parts : (blocks : Bool) (x : ℕ × ℕ) (p : Piece) → joins_zeros blocks x p ≡ true → (x.1 ≡ 0) × (is_zeros p ≡ true)
zeros_parts blocks x p h =
    let one = and_parts blocks (x.1 == 0 && is_zeros p) h in
    let two = and_parts (x.1 == 0) (is_zeros p) one.1 in
    (eqb-true x.1 0 two.0, two.1)

text_parts : (texts : Bool) (x : ℕ × ℕ) (p : Piece) → joins_text texts x p ≡ true → (is_full x.1 ≡ true) × (ends_text p ≡ true)
text_parts texts x p h =
    let one = and_parts texts (is_full x.1 && ends_text p) h in
    and_parts (is_full x.1) (ends_text p) one.1

-- ---- texts

-- a word that is its text
record Reads (w : ℕ) : Type 0 where
  characters : list_all is_text_character (text_in w) ≡ true
  back : ascii_word (text_in w) 0 ≡ w

reads : (w : ℕ) → reads_as_text w ≡ true → Reads w
reads w h =
    let both = and_parts (list_all is_text_character (text_in w)) (ascii_word (text_in w) 0 == w) h in
    record { characters = both.0; back = eqb-true (ascii_word (text_in w) 0) w both.1 }

record Ends (w : ℕ) : Type 0 where
  reads : Reads w
  short : length (text_in w) < 5

ends : (w : ℕ) → is_end w ≡ true → Ends w
ends w h =
    let both = and_parts (reads_as_text w) (nat_lt (length (text_in w)) 5) h in
    record { reads = reads w both.0; short = ltb-true (length (text_in w)) 5 both.1 }

not_shorter : (b : Bool) (c : ℕ) (cs : List ℕ) (n : ℕ) → (c == 0) ≡ b → length (if b then [] else c ∷ before_zero cs) ≡ suc n
    → (length (before_zero cs) ≡ n) × ((if b then [] else c ∷ before_zero cs) ≡ c ∷ before_zero cs)
not_shorter true c cs n e h = absurd (omega (arith, h))
not_shorter false c cs n e h = (omega (arith, h), refl)

-- a text as long as the list is the list
whole_text : (cs : List ℕ) → length (before_zero cs) ≡ length cs → before_zero cs ≡ cs
whole_text [] h = refl
whole_text (c ∷ cs) h =
    let k = not_shorter (c == 0) c cs (length cs) refl h in
    k.1 ∙ ap (λ l. c ∷ l) (whole_text cs k.0)

record Fills (w : ℕ) : Type 0 where
  characters : list_all is_text_character (ascii_text w) ≡ true
  back : ascii_word (ascii_text w) 0 ≡ w

fills : (w : ℕ) → is_full w ≡ true → Fills w
fills w h =
    let both = and_parts (reads_as_text w) (length (text_in w) == 5) h in
    let r = reads w both.0 in
    let five : length (text_in w) ≡ length (ascii_text w) = eqb-true (length (text_in w)) 5 both.1 in
    let all : text_in w ≡ ascii_text w = whole_text (ascii_text w) five in
    record { characters = ap (list_all is_text_character) (sym all) ∙ r.characters; back = ap (λ t. ascii_word t 0) (sym all) ∙ r.back }

-- a short text has one word
short_words : (text : List ℕ) (w : ℕ) → length text < 5 → ascii_word text 0 ≡ w → text_words text ≡ w ∷ []
short_words text w h e =
    let one : text_count text ≡ 1 = omega (arith, h) in
    ap (text_words_from text 0) one ∙ ap (λ v. v ∷ []) e

-- five characters before a text are one word before its words
word_later : (c1 c2 c3 c4 c5 : ℕ) (text : List ℕ) (i : ℕ)
    → ascii_word (c1 ∷ c2 ∷ c3 ∷ c4 ∷ c5 ∷ text) (5 * (i + 1)) ≡ ascii_word text (5 * i)
unfolding ascii_word
word_later c1 c2 c3 c4 c5 text i =
    let all = c1 ∷ c2 ∷ c3 ∷ c4 ∷ c5 ∷ text in
    let e : 5 * (i + 1) ≡ suc (suc (suc (suc (suc (5 * i))))) = omega arith in
    let e1 : 5 * (i + 1) + 1 ≡ suc (suc (suc (suc (suc (5 * i + 1))))) = omega arith in
    let e2 : 5 * (i + 1) + 2 ≡ suc (suc (suc (suc (suc (5 * i + 2))))) = omega arith in
    let e3 : 5 * (i + 1) + 3 ≡ suc (suc (suc (suc (suc (5 * i + 3))))) = omega arith in
    let e4 : 5 * (i + 1) + 4 ≡ suc (suc (suc (suc (suc (5 * i + 4))))) = omega arith in
    ap (λ k. slice_index all k % 128 * 2 ^ 29 + slice_index all (5 * (i + 1) + 1) % 128 * 2 ^ 22 + slice_index all (5 * (i + 1) + 2) % 128 * 2 ^ 15
    + slice_index all (5 * (i + 1) + 3) % 128 * 2 ^ 8 + slice_index all (5 * (i + 1) + 4) % 128 * 2 ^ 1) e
    ∙ (ap (λ k. slice_index text (5 * i) % 128 * 2 ^ 29 + slice_index all k % 128 * 2 ^ 22 + slice_index all (5 * (i + 1) + 2) % 128 * 2 ^ 15
    + slice_index all (5 * (i + 1) + 3) % 128 * 2 ^ 8 + slice_index all (5 * (i + 1) + 4) % 128 * 2 ^ 1) e1
    ∙ (ap (λ k. slice_index text (5 * i) % 128 * 2 ^ 29 + slice_index text (5 * i + 1) % 128 * 2 ^ 22 + slice_index all k % 128 * 2 ^ 15
    + slice_index all (5 * (i + 1) + 3) % 128 * 2 ^ 8 + slice_index all (5 * (i + 1) + 4) % 128 * 2 ^ 1) e2
    ∙ (ap (λ k. slice_index text (5 * i) % 128 * 2 ^ 29 + slice_index text (5 * i + 1) % 128 * 2 ^ 22 + slice_index text (5 * i + 2) % 128 * 2 ^ 15
    + slice_index all k % 128 * 2 ^ 8 + slice_index all (5 * (i + 1) + 4) % 128 * 2 ^ 1) e3
    ∙ ap (λ k. slice_index text (5 * i) % 128 * 2 ^ 29 + slice_index text (5 * i + 1) % 128 * 2 ^ 22 + slice_index text (5 * i + 2) % 128 * 2 ^ 15
    + slice_index text (5 * i + 3) % 128 * 2 ^ 8 + slice_index all k % 128 * 2 ^ 1) e4)))

words_later : (c1 c2 c3 c4 c5 : ℕ) (text : List ℕ) (i n : ℕ)
    → text_words_from (c1 ∷ c2 ∷ c3 ∷ c4 ∷ c5 ∷ text) (i + 1) n ≡ text_words_from text i n
words_later c1 c2 c3 c4 c5 text i zero = refl
words_later c1 c2 c3 c4 c5 text i (suc n) =
    ap (λ w. w ∷ text_words_from (c1 ∷ c2 ∷ c3 ∷ c4 ∷ c5 ∷ text) (i + 1 + 1) n) (word_later c1 c2 c3 c4 c5 text i)
    ∙ ap (λ l. ascii_word text (5 * i) ∷ l) (words_later c1 c2 c3 c4 c5 text (i + 1) n)

first_word : (c1 c2 c3 c4 c5 : ℕ) (text : List ℕ) → ascii_word (c1 ∷ c2 ∷ c3 ∷ c4 ∷ c5 ∷ text) 0 ≡ ascii_word (c1 ∷ c2 ∷ c3 ∷ c4 ∷ c5 ∷ []) 0
unfolding ascii_word
first_word c1 c2 c3 c4 c5 text = refl

five_words : (c1 c2 c3 c4 c5 : ℕ) (text : List ℕ) (w : ℕ) → ascii_word (c1 ∷ c2 ∷ c3 ∷ c4 ∷ c5 ∷ []) 0 ≡ w
    → text_words (c1 ∷ c2 ∷ c3 ∷ c4 ∷ c5 ∷ text) ≡ w ∷ text_words text
five_words c1 c2 c3 c4 c5 text w e =
    let all = c1 ∷ c2 ∷ c3 ∷ c4 ∷ c5 ∷ text in
    let more : text_count all ≡ suc (text_count text) = omega arith in
    ap (text_words_from all 0) more
    ∙ (ap (λ l. ascii_word all 0 ∷ l) (words_later c1 c2 c3 c4 c5 text 0 (text_count text))
    ∙ ap (λ v. v ∷ text_words text) (first_word c1 c2 c3 c4 c5 text ∙ e))

full_words : (w : ℕ) (text : List ℕ) → Fills w → text_words (ascii_text w ++ text) ≡ w ∷ text_words text
full_words w text f =
    five_words (w / 2 ^ 29 % 128) (w / 2 ^ 22 % 128) (w / 2 ^ 15 % 128) (w / 2 ^ 8 % 128) (w / 2 % 128) text w f.back

full_count : (w : ℕ) (text : List ℕ) → text_count (ascii_text w ++ text) ≡ text_count text + 1
full_count w text = omega arith

-- ---- pieces behind a word

-- a piece of a word alone
record IsAlone (x : ℕ × ℕ) (s : Piece) : Type 0 where
  at : address_of s ≡ x.0
  one : count s ≡ 1
  words : words_in s ≡ x ∷ []
  is : x.0 < 2 ^ 18 → x.1 < 2 ^ 36 → IsPiece s

-- a piece of a word and those of the piece right behind it
record IsJoined (marked : ℕ → Bool) (x : ℕ × ℕ) (p n : Piece) : Type 0 where
  next : address_of p ≡ x.0 + 1
  bare : not (marked (address_of p)) ≡ true
  at : address_of n ≡ x.0
  size : count n ≡ count p + 1
  words : words_in n ≡ x ∷ words_in p
  is : IsPiece p → behind p ≤ 2 ^ 18 → IsPiece n

alone_if : (x : ℕ × ℕ) (b : Bool) → (b ≡ true → is_end x.1 ≡ true) → IsAlone x (if b then pieces.Text x.0 (text_in x.1) else pieces.Word x.0 x.1)
alone_if x true h =
    let e = ends x.1 (h refl) in
    let short : length (text_in x.1) < 5 = e.short in
    let one : text_count (text_in x.1) ≡ 1 = omega (arith, short) in
    record {
      at = refl;
      one = one;
      words = ap (at_addresses x.0) (short_words (text_in x.1) x.1 short e.reads.back);
      is = λ high fits. (e.reads.characters, omega (arith, high, one));
    }
alone_if x false h = record { at = refl; one = refl; words = refl; is = λ high fits. fits }

alone_is : (texts : Bool) (x : ℕ × ℕ) → IsAlone x (alone texts x)
alone_is texts x =
    let four = length (text_in x.1) == 4 in
    alone_if x (texts && (is_end x.1 && four))
    (λ h. (and_parts (is_end x.1) four (and_parts texts (is_end x.1 && four) h).1).0)

one_more : (a n : ℕ) → at_addresses a (replicate (suc n) 0) ≡ (a, 0) ∷ at_addresses (a + 1) (replicate n 0)
one_more a n = refl

zero_more : (a n : ℕ) → at_addresses a (replicate (n + 1) 0) ≡ (a, 0) ∷ at_addresses (a + 1) (replicate n 0)
zero_more a n =
    let e : n + 1 ≡ suc n = omega arith in
    ap (λ k. at_addresses a (replicate k 0)) e ∙ one_more a n

zeros_words : (p : Piece) → is_zeros p ≡ true → words_in p ≡ at_addresses (address_of p) (replicate (count p) 0)
zeros_words (pieces.Word a w) h = ap (λ v. (a, v) ∷ []) (eqb-true w 0 h)
zeros_words (pieces.Zeros a n) h = refl
zeros_words (pieces.Text a text) h = absurd (cc)

zeros_joined : (marked : ℕ → Bool) (x : ℕ × ℕ) (p : Piece) → is_next marked x p ≡ true → x.1 ≡ 0 → is_zeros p ≡ true
    → IsJoined marked x p (pieces.Zeros x.0 (count p + 1))
zeros_joined marked x p h zero_word zeros =
    let n = next_at marked x p h in
    let next : address_of p ≡ x.0 + 1 = n.0 in
    record {
      next = next;
      bare = n.1;
      at = refl;
      size = refl;
      words =
          zero_more x.0 (count p)
          ∙ (ap (λ a. (x.0, 0) ∷ at_addresses a (replicate (count p) 0)) (sym next)
          ∙ (ap (λ l. (x.0, 0) ∷ l) (sym (zeros_words p zeros)) ∙ ap (λ w. (x.0, w) ∷ words_in p) (sym zero_word)));
      is = λ piece most. (omega arith, omega (arith, most, next));
    }

-- a piece that is the end of a text
record IsEnd (p : Piece) : Type 0 where
  size : count p ≡ text_count (text_of p)
  words : words_in p ≡ at_addresses (address_of p) (text_words (text_of p))
  characters : IsPiece p → list_all is_text_character (text_of p) ≡ true

word_end : (a w : ℕ) → is_end w ≡ true → IsEnd (pieces.Word a w)
word_end a w h =
    let e = ends w h in
    let short : length (text_in w) < 5 = e.short in
    record {
      size = omega (arith, short);
      words = ap (at_addresses a) (sym (short_words (text_in w) w e.short e.reads.back));
      characters = λ is. e.reads.characters;
    }

text_end : (a : ℕ) (text : List ℕ) → IsEnd (pieces.Text a text)
text_end a text = record { size = refl; words = refl; characters = λ is. is.0 }

zero_ends : is_end 0 ≡ true
unfolding ascii_word
zero_ends = refl

word_first : (a w : ℕ) (ws : List ℕ) → at_addresses a (w ∷ ws) ≡ (a, w) ∷ at_addresses (a + 1) ws
word_first a w ws = refl

text_joined : (marked : ℕ → Bool) (x : ℕ × ℕ) (p : Piece) → is_next marked x p ≡ true → is_full x.1 ≡ true → IsEnd p
    → IsJoined marked x p (pieces.Text x.0 (ascii_text x.1 ++ text_of p))
text_joined marked x p h full end =
    let n = next_at marked x p h in
    let next : address_of p ≡ x.0 + 1 = n.0 in
    let f = fills x.1 full in
    let size : text_count (ascii_text x.1 ++ text_of p) ≡ count p + 1 =
    full_count x.1 (text_of p) ∙ ap (λ k. k + 1) (sym end.size) in
    record {
      next = next;
      bare = n.1;
      at = refl;
      size = size;
      words =
          ap (at_addresses x.0) (full_words x.1 (text_of p) f)
          ∙ (word_first x.0 x.1 (text_words (text_of p))
          ∙ (ap (λ a. x ∷ at_addresses a (text_words (text_of p))) (sym next) ∙ ap (λ l. x ∷ l) (sym end.words)));
      is = λ piece most. (
        list_all-append is_text_character (ascii_text x.1) (text_of p) ∙ rw (f.characters, end.characters piece) refl,
        omega (arith, most, next, size),
      );
    }

-- words of 0 as a piece
record IsRun (a n : ℕ) (z : Piece) : Type 0 where
  at : address_of z ≡ a
  size : count z ≡ n
  words : words_in z ≡ at_addresses a (replicate n 0)
  is : 0 < n → a + n ≤ 2 ^ 18 → IsPiece z

run_if : (a n : ℕ) (b : Bool) → (n == 1) ≡ b → IsRun a n (if b then pieces.Word a 0 else pieces.Zeros a n)
run_if a n true e =
    let one : n ≡ 1 = eqb-true n 1 e in
    record {
      at = refl;
      size = sym one;
      words = ap (λ k. at_addresses a (replicate k 0)) (sym one);
      is = λ some most. lit< tt;
    }
run_if a n false e = record { at = refl; size = refl; words = refl; is = λ some most. (some, most) }

-- words of 0 in two: the first, and those behind it
record IsCut (p z : Piece) : Type 0 where
  at : address_of z ≡ address_of p + 1
  some : 0 < count z
  size : count p ≡ count z + 1
  words : words_in p ≡ (address_of p, 0) ∷ words_in z
  is : IsPiece p → IsPiece z

zeros_cut : (a n : ℕ) → 1 < n → IsCut (pieces.Zeros a n) (zeros_at (a + 1) (n - 1))
zeros_cut a n more =
    let k = n - 1 in
    let r = run_if (a + 1) k (k == 1) refl in
    let size : count (zeros_at (a + 1) k) ≡ k = r.size in
    let e : n ≡ k + 1 = omega (arith, more) in
    record {
      at = r.at;
      some = omega (arith, more, size);
      size = omega (arith, more, size);
      words = ap (λ i. at_addresses a (replicate i 0)) e ∙ (zero_more a k ∙ ap (λ l. (a, 0) ∷ l) (sym r.words));
      is = λ piece. r.is (omega (arith, more)) (omega (arith, more, piece.1));
    }

-- five characters before words of 0
zeros_joined_text : (marked : ℕ → Bool) (x : ℕ × ℕ) (a n : ℕ) → is_next marked x (pieces.Zeros a n) ≡ true → is_full x.1 ≡ true
    → IsJoined marked x (pieces.Word a 0) (pieces.Text x.0 (ascii_text x.1 ++ []))
zeros_joined_text marked x a n next full = text_joined marked x (pieces.Word a 0) next full (word_end a 0 zero_ends)

one_joined : (marked : ℕ → Bool) (x : ℕ × ℕ) (a n : ℕ) (t : Piece) → n ≡ 1 → IsJoined marked x (pieces.Word a 0) t
    → IsJoined marked x (pieces.Zeros a n) t
one_joined marked x a n t one j =
    let size : count t ≡ 1 + 1 = j.size in
    record {
      next = j.next;
      bare = j.bare;
      at = j.at;
      size = omega (arith, size, one);
      words = j.words ∙ ap (λ k. x ∷ at_addresses a (replicate k 0)) (sym one);
      is = λ piece most. j.is (lit< tt) (omega (arith, most, one));
    }

-- five characters before the end of a text, which they join
module _ (marked : ℕ → Bool) (x : ℕ × ℕ) (ps : List Piece) (P : List Piece → Type 0) (full : is_full x.1 ≡ true) where
  rest_case : (a n : ℕ) (b : Bool) → nat_lt 1 n ≡ b → nat_lt 0 n ≡ true → is_next marked x (pieces.Zeros a n) ≡ true
      → ((t : Piece) → IsJoined marked x (pieces.Zeros a n) t → P (t ∷ ps))
      → ((t z : Piece) → IsCut (pieces.Zeros a n) z → IsJoined marked x (pieces.Word a 0) t → P (t ∷ z ∷ ps))
      → P (pieces.Text x.0 (ascii_text x.1 ++ []) ∷ (if b then zeros_at (a + 1) (n - 1) ∷ ps else ps))
  rest_case a n true e some next more cut =
      cut (pieces.Text x.0 (ascii_text x.1 ++ [])) (zeros_at (a + 1) (n - 1)) (zeros_cut a n (ltb-true 1 n e))
      (zeros_joined_text marked x a n next full)
  rest_case a n false e some next more cut =
      let one : n ≡ 1 = grind (arith, nat_tests) in
      more (pieces.Text x.0 (ascii_text x.1 ++ []))
      (one_joined marked x a n (pieces.Text x.0 (ascii_text x.1 ++ [])) one (zeros_joined_text marked x a n next full))

  end_case : (p : Piece) → ends_text p ≡ true → is_next marked x p ≡ true → ((t : Piece) → IsJoined marked x p t → P (t ∷ ps))
      → ((t z : Piece) → IsCut p z → IsJoined marked x (pieces.Word (address_of p) 0) t → P (t ∷ z ∷ ps))
      → P (pieces.Text x.0 (ascii_text x.1 ++ text_of p) ∷ rest_before p ps)
  end_case (pieces.Word a w) end next more cut =
      more (pieces.Text x.0 (ascii_text x.1 ++ text_in w)) (text_joined marked x (pieces.Word a w) next full (word_end a w end))
  end_case (pieces.Zeros a n) end next more cut = rest_case a n (nat_lt 1 n) refl end next more cut
  end_case (pieces.Text a text) end next more cut =
      more (pieces.Text x.0 (ascii_text x.1 ++ text)) (text_joined marked x (pieces.Text a text) next full (text_end a text))

-- a word before a piece is alone, or joins it, or joins the first of its words of 0
module _ (marked : ℕ → Bool) (blocks texts : Bool) (x : ℕ × ℕ) (p : Piece) (ps : List Piece) (P : List Piece → Type 0)
    (one : (s : Piece) → IsAlone x s → P (s ∷ p ∷ ps)) (more : (n : Piece) → IsJoined marked x p n → P (n ∷ ps))
    (cut : (n z : Piece) → IsCut p z → IsJoined marked x (pieces.Word (address_of p) 0) n → P (n ∷ z ∷ ps)) where
  text_case : (b : Bool) → joins_text texts x p ≡ b → is_next marked x p ≡ true → P (text_if b texts x p ps)
  text_case true e next =
      let t = text_parts texts x p e in
      end_case marked x ps P t.0 p t.1 next more cut
  text_case false e next = one (alone texts x) (alone_is texts x)

  zeros_case : (b : Bool) → joins_zeros blocks x p ≡ b → is_next marked x p ≡ true → P (zeros_if b texts x p ps)
  zeros_case true e next =
      let z = zeros_parts blocks x p e in
      more (pieces.Zeros x.0 (count p + 1)) (zeros_joined marked x p next z.0 z.1)
  zeros_case false e next = text_case (joins_text texts x p) refl next

  next_case : (b : Bool) → is_next marked x p ≡ b → P (join_if b blocks texts x p ps)
  next_case true e = zeros_case (joins_zeros blocks x p) refl e
  next_case false e = one (alone texts x) (alone_is texts x)

  by_step : P (with_word blocks texts marked x (p ∷ ps))
  by_step = next_case (is_next marked x p) refl

-- ---- they are pieces

behind_below : (p : Piece) → IsPiece p → address_of p < 2 ^ 18 → behind p ≤ 2 ^ 18
behind_below (pieces.Word a w) is h = omega arith
behind_below (pieces.Zeros a n) is h = is.1
behind_below (pieces.Text a text) is h = is.1

alone_pieces : (x : ℕ × ℕ) (s : Piece) (ps : List Piece) (least : ℕ) → IsAlone x s → least ≤ x.0 → x.0 < 2 ^ 18 → x.1 < 2 ^ 36
    → ArePieces (x.0 + 1) ps → ArePieces least (s ∷ ps)
alone_pieces x s ps least a low high fits h =
    let at : address_of s ≡ x.0 = a.at in
    let ends : x.0 + 1 ≡ address_of s + count s = omega (arith, at, a.one) in
    (omega (arith, at), omega (arith, at, high), a.is high fits, subst (λ (n : ℕ). ArePieces n ps) ends h)

joined_pieces : (marked : ℕ → Bool) (x : ℕ × ℕ) (p n : Piece) (ps : List Piece) (least : ℕ) → IsJoined marked x p n → least ≤ x.0 → x.0 < 2 ^ 18
    → ArePieces (x.0 + 1) (p ∷ ps) → ArePieces least (n ∷ ps)
joined_pieces marked x p n ps least j low high h =
    let at : address_of n ≡ x.0 = j.at in
    let next : address_of p ≡ x.0 + 1 = j.next in
    let size : count n ≡ count p + 1 = j.size in
    let ends : address_of p + count p ≡ address_of n + count n = omega (arith, at, next, size) in
    (omega (arith, at), omega (arith, at, high), j.is h.2 (behind_below p h.2 h.1), subst (λ (k : ℕ). ArePieces k ps) ends h.3)

cut_pieces : (p z : Piece) (ps : List Piece) (least : ℕ) → IsCut p z → ArePieces least (p ∷ ps)
    → ArePieces least (pieces.Word (address_of p) 0 ∷ z ∷ ps)
cut_pieces p z ps least c h =
    let at : address_of z ≡ address_of p + 1 = c.at in
    let some : 0 < count z = c.some in
    let size : count p ≡ count z + 1 = c.size in
    let most : address_of p + count p ≤ 2 ^ 18 = behind_below p h.2 h.1 in
    let ends : address_of p + count p ≡ address_of z + count z = omega (arith, at, size) in
    let high : address_of z < 2 ^ 18 = omega (arith, at, some, size, most) in
    (h.0, h.1, lit< tt, (omega (arith, at), high, c.is h.2, subst (λ (k : ℕ). ArePieces k ps) ends h.3))

with_pieces : (blocks texts : Bool) (marked : ℕ → Bool) (x : ℕ × ℕ) (ps : List Piece) (least : ℕ) → least ≤ x.0 → x.0 < 2 ^ 18 → x.1 < 2 ^ 36
    → ArePieces (x.0 + 1) ps → ArePieces least (with_word blocks texts marked x ps)
with_pieces blocks texts marked x [] least low high fits h = alone_pieces x (alone texts x) [] least (alone_is texts x) low high fits h
with_pieces blocks texts marked x (p ∷ ps) least low high fits h =
    by_step marked blocks texts x p ps (λ new. ArePieces least new) (λ s a. alone_pieces x s (p ∷ ps) least a low high fits h)
    (λ n j. joined_pieces marked x p n ps least j low high h)
    (λ n z c j. joined_pieces marked x (pieces.Word (address_of p) 0) n (z ∷ ps) least j low high (cut_pieces p z ps (x.0 + 1) c h))

pub are_pieces : (blocks texts : Bool) (marked : ℕ → Bool) (least : ℕ) (xs : List (ℕ × ℕ)) → AreWords least xs
    → ArePieces least (pieces_of blocks texts marked xs)
unfolding pieces_of
are_pieces blocks texts marked least [] r = tt
are_pieces blocks texts marked least (x ∷ xs) r =
    with_pieces blocks texts marked x (pieces_of blocks texts marked xs) least r.0 r.1 r.2 (are_pieces blocks texts marked (x.0 + 1) xs r.3)

-- ---- their words

with_words : (blocks texts : Bool) (marked : ℕ → Bool) (x : ℕ × ℕ) (ps : List Piece)
    → flat_map words_in (with_word blocks texts marked x ps) ≡ x ∷ flat_map words_in ps
with_words blocks texts marked x [] = ap (λ l. l ++ []) (alone_is texts x).words
with_words blocks texts marked x (p ∷ ps) =
    by_step marked blocks texts x p ps (λ new. flat_map words_in new ≡ x ∷ flat_map words_in (p ∷ ps))
    (λ s a. ap (λ l. l ++ flat_map words_in (p ∷ ps)) a.words) (λ n j. ap (λ l. l ++ flat_map words_in ps) j.words)
    (λ n z c j. ap (λ l. l ++ flat_map words_in (z ∷ ps)) j.words ∙ ap (λ l. x ∷ (l ++ flat_map words_in ps)) (sym c.words))

pub pieces_words : (blocks texts : Bool) (marked : ℕ → Bool) (xs : List (ℕ × ℕ)) → flat_map words_in (pieces_of blocks texts marked xs) ≡ xs
unfolding pieces_of
pieces_words blocks texts marked [] = refl
pieces_words blocks texts marked (x ∷ xs) =
    with_words blocks texts marked x (pieces_of blocks texts marked xs) ∙ ap (λ l. x ∷ l) (pieces_words blocks texts marked xs)

-- ---- their first words

abbrev pub heads : List Piece → List (ℕ × ℕ)
heads ps = map first ps

rise_lower : (low high : ℕ) (xs : List (ℕ × ℕ)) → low ≤ high → AreWords high xs → AreWords low xs
rise_lower low high [] h r = tt
rise_lower low high (x ∷ xs) h r =
    let above : high ≤ x.0 = r.0 in
    (omega arith, r.1, r.2, r.3)

word_below : (text : List ℕ) → ascii_word text 0 < 2 ^ 36
unfolding ascii_word
word_below text = omega arith

first_fits : (p : Piece) → IsPiece p → (first p).1 < 2 ^ 36
first_fits (pieces.Word a w) is = is
first_fits (pieces.Zeros a n) is = lit< tt
first_fits (pieces.Text a text) is = word_below text

some_words : (p : Piece) → IsPiece p → 0 < count p
some_words (pieces.Word a w) is = lit< tt
some_words (pieces.Zeros a n) is = is.0
some_words (pieces.Text a text) is = omega arith

pub heads_are : (least : ℕ) (ps : List Piece) → ArePieces least ps → AreWords least (heads ps)
heads_are least [] h = tt
heads_are least (p ∷ ps) h =
    let some : 0 < count p = some_words p h.2 in
    (h.0, h.1, first_fits p h.2, rise_lower (address_of p + 1) (behind p) (heads ps) (omega (arith, some)) (heads_are (behind p) ps h.3))

other_label : (marked : ℕ → Bool) (q a : ℕ) (b : Bool) → (a == q) ≡ b → marked q ≡ true → not (marked a) ≡ true → b ≡ false
other_label marked q a false e m bare = refl
other_label marked q a true e m bare =
    let same : a ≡ q = eqb-true a q e in
    let off : not (marked q) ≡ true = subst (λ (n : ℕ). not (marked n) ≡ true) same bare in
    absurd (cc)

drop_middle : (a b c : Bool) → b ≡ false → (a || (b || c)) ≡ true → (a || c) ≡ true
drop_middle true b c e h = refl
drop_middle false false c e h = h
drop_middle false true c e h = absurd (cc)

add_middle : (a b c : Bool) → (a || c) ≡ true → (a || (b || c)) ≡ true
add_middle true b c h = refl
add_middle false true c h = refl
add_middle false false c h = h

with_heads : (blocks texts : Bool) (marked : ℕ → Bool) (q : ℕ) (x : ℕ × ℕ) (ps : List Piece) → marked q ≡ true
    → (x.0 == q || has_word (heads ps) q) ≡ true → has_word (heads (with_word blocks texts marked x ps)) q ≡ true
with_heads blocks texts marked q x [] m h = ap (λ a. a == q || false) (alone_is texts x).at ∙ h
with_heads blocks texts marked q x (p ∷ ps) m h =
    by_step marked blocks texts x p ps (λ new. has_word (heads new) q ≡ true)
    (λ s a. ap (λ k. k == q || has_word (heads (p ∷ ps)) q) a.at ∙ h)
    (λ n j. ap (λ k. k == q || has_word (heads ps) q) j.at
    ∙ drop_middle (x.0 == q) (address_of p == q) (has_word (heads ps) q) (other_label marked q (address_of p) (address_of p == q) refl m j.bare) h)
    (λ n z c j. ap (λ k. k == q || (address_of z == q || has_word (heads ps) q)) j.at
    ∙ add_middle (x.0 == q) (address_of z == q) (has_word (heads ps) q)
    (drop_middle (x.0 == q) (address_of p == q) (has_word (heads ps) q) (other_label marked q (address_of p) (address_of p == q) refl m j.bare) h))

or_later : (a b c : Bool) → (b ≡ true → c ≡ true) → (a || b) ≡ true → (a || c) ≡ true
or_later true b c f h = refl
or_later false b c f h = f h

-- a word with a label begins a piece
pub begins : (blocks texts : Bool) (marked : ℕ → Bool) (q : ℕ) (xs : List (ℕ × ℕ)) → marked q ≡ true → has_word xs q ≡ true
    → has_word (heads (pieces_of blocks texts marked xs)) q ≡ true
unfolding pieces_of
begins blocks texts marked q [] m h = h
begins blocks texts marked q (x ∷ xs) m h =
    let ps = pieces_of blocks texts marked xs in
    with_heads blocks texts marked q x ps m
    (or_later (x.0 == q) (has_word xs q) (has_word (heads ps) q) (λ later. begins blocks texts marked q xs m later) h)

-- ---- where they stand

alone_placed : (x : ℕ × ℕ) (s : Piece) (ps : List Piece) → IsAlone x s → x.0 < 2 ^ 18 → ArePlaced ps → ArePlaced (s ∷ ps)
alone_placed x s ps a high h =
    let at : address_of s ≡ x.0 = a.at in
    ((omega (arith, at, high), omega (arith, at, a.one, high)), h)

joined_placed : (marked : ℕ → Bool) (x : ℕ × ℕ) (p n : Piece) (ps : List Piece) → IsJoined marked x p n → x.0 < 2 ^ 18 → ArePlaced (p ∷ ps) → ArePlaced (n ∷ ps)
joined_placed marked x p n ps j high h =
    let at : address_of n ≡ x.0 = j.at in
    let next : address_of p ≡ x.0 + 1 = j.next in
    let size : count n ≡ count p + 1 = j.size in
    let most : address_of p + count p ≤ 2 ^ 18 = h.0.1 in
    ((omega (arith, at, high), omega (arith, at, next, size, most)), h.1)

cut_placed : (p z : Piece) (ps : List Piece) → IsCut p z → ArePlaced (p ∷ ps) → ArePlaced (pieces.Word (address_of p) 0 ∷ z ∷ ps)
cut_placed p z ps c h =
    let at : address_of z ≡ address_of p + 1 = c.at in
    let some : 0 < count z = c.some in
    let size : count p ≡ count z + 1 = c.size in
    let most : address_of p + count p ≤ 2 ^ 18 = h.0.1 in
    let next : address_of p + 1 ≤ 2 ^ 18 = omega (arith, size, most) in
    let high : address_of z < 2 ^ 18 = omega (arith, at, some, size, most) in
    let last : address_of z + count z ≤ 2 ^ 18 = omega (arith, at, size, most) in
    ((h.0.0, next), ((high, last), h.1))

with_placed : (blocks texts : Bool) (marked : ℕ → Bool) (x : ℕ × ℕ) (ps : List Piece) → x.0 < 2 ^ 18 → ArePlaced ps
    → ArePlaced (with_word blocks texts marked x ps)
with_placed blocks texts marked x [] high h = alone_placed x (alone texts x) [] (alone_is texts x) high h
with_placed blocks texts marked x (p ∷ ps) high h =
    by_step marked blocks texts x p ps ArePlaced (λ s a. alone_placed x s (p ∷ ps) a high h) (λ n j. joined_placed marked x p n ps j high h)
    (λ n z c j. joined_placed marked x (pieces.Word (address_of p) 0) n (z ∷ ps) j high (cut_placed p z ps c h))

pub are_placed : (blocks texts : Bool) (marked : ℕ → Bool) (least : ℕ) (xs : List (ℕ × ℕ)) → Rises least xs
    → ArePlaced (pieces_of blocks texts marked xs)
unfolding pieces_of
are_placed blocks texts marked least [] r = tt
are_placed blocks texts marked least (x ∷ xs) r =
    with_placed blocks texts marked x (pieces_of blocks texts marked xs) r.1 (are_placed blocks texts marked (x.0 + 1) xs r.2)
