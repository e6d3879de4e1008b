-- Words are read from their bytes, and bytes that are read are those of the words.
use Rattle.std.proofs.Common.{◌≡◌, ◌∙◌, sym, ap, ℕ, ◌+◌, ◌-◌, ◌*◌, ◌/◌, ◌%◌, ◌^◌, ◌<◌, ◌==◌, Bool, true, false, ◌&&◌, nat_lt, List, [], ◌∷◌, ◌++◌}
use Rattle.std.proofs.Common.{Ok, Err, refl, arith, length, take, drop, get_or, append_assoc, append-nil}
use Rattle.std.proofs.lemmas.List.{take_all}
use Rattle.std.specs.Prelude.{flat_map, All}
use Rattle.std.proofs.lemmas.Bool.{and_parts, eqb-true, lt-ltb, ltb-true}
use Rattle.image_files.specs.declared.packings.Packing.{Packing}
use Rattle.image_files.specs.declared.packings.Packing.TheVariants.{CoreDump, HighDensity, AnsiAscii, Simh, Octal}
use Rattle.image_files.proofs.Bounds.{AreBelow, are_below}
use Rattle.image_files.specs.Packings.{core_bytes, ascii_bytes, simh_bytes, dense_pair, dense_last, dense_bytes, packed}
use Rattle.image_files.specs.declared.packings.PackErrorKind.{PackErrorKind}
use Rattle.image_files.specs.declared.packings.PackErrorKind.TheVariants.{ExtraBits, NotOctal}
use Rattle.image_files.specs.Packings.{Words, with_word, word_or, word_then, five_bytes, core_words, ascii_value, are_characters, ascii_words}
use Rattle.image_files.specs.Packings.{simh_value, is_simh, simh_words, second_word, dense_words, unpacked}
use Rattle.image_files.specs.Packings.{octal_bytes, are_octal_digits, are_marks, half_value, octal_words}
use Rattle.word36.specs.Words.{joined}
use Rattle.image_files.proofs.OctalLines.{line_same, octal_read}

-- ---- from words to bytes and back

core_back : (w : ℕ) → five_bytes (w / 2 ^ 28) (w / 2 ^ 20 % 256) (w / 2 ^ 12 % 256) (w / 2 ^ 4 % 256) (w % 16) ≡ w
core_back w = omega arith

core_fits : (w : ℕ) → nat_lt (w % 16) 16 ≡ true
core_fits w = lt-ltb (w % 16) 16 (omega arith)

core_read : (ws : List ℕ) (number : ℕ) → core_words number (flat_map core_bytes ws) ≡ Ok ws
unfolding core_words
core_read [] number = refl
core_read (w ∷ ws) number =
    let tail = core_words (number + 1) (flat_map core_bytes ws) in
    ap (λ t. word_then number t (five_bytes (w / 2 ^ 28) (w / 2 ^ 20 % 256) (w / 2 ^ 12 % 256) (w / 2 ^ 4 % 256) (w % 16)) tail) (core_fits w)
    ∙ (ap (λ n. with_word n tail) (core_back w) ∙ ap (with_word w) (core_read ws (number + 1)))

ascii_back : (w : ℕ)
    → ascii_value (w / 2 ^ 29) (w / 2 ^ 22 % 128) (w / 2 ^ 15 % 128) (w / 2 ^ 8 % 128) (w % 2 * 128 + w / 2 % 128) ≡ w
ascii_back w =
    let low : (w % 2 * 128 + w / 2 % 128) % 128 ≡ w / 2 % 128 = omega arith in
    let high : (w % 2 * 128 + w / 2 % 128) / 128 ≡ w % 2 = omega arith in
    omega (arith, low, high)

ascii_fits : (w : ℕ) → w < 2 ^ 36 → are_characters (w / 2 ^ 29) (w / 2 ^ 22 % 128) (w / 2 ^ 15 % 128) (w / 2 ^ 8 % 128) ≡ true
ascii_fits w h =
    rw (
      lt-ltb (w / 2 ^ 29) 128 (omega arith),
      lt-ltb (w / 2 ^ 22 % 128) 128 (omega arith),
      lt-ltb (w / 2 ^ 15 % 128) 128 (omega arith),
      lt-ltb (w / 2 ^ 8 % 128) 128 (omega arith),
    ) refl

ascii_read : (ws : List ℕ) (number : ℕ) → AreBelow (2 ^ 36) ws → ascii_words number (flat_map ascii_bytes ws) ≡ Ok ws
unfolding ascii_words
ascii_read [] number h = refl
ascii_read (w ∷ ws) number h =
    let tail = ascii_words (number + 1) (flat_map ascii_bytes ws) in
    let value = ascii_value (w / 2 ^ 29) (w / 2 ^ 22 % 128) (w / 2 ^ 15 % 128) (w / 2 ^ 8 % 128) (w % 2 * 128 + w / 2 % 128) in
    ap (λ t. word_then number t value tail) (ascii_fits w h.0)
    ∙ (ap (λ n. with_word n tail) (ascii_back w) ∙ ap (with_word w) (ascii_read ws (number + 1) h.1))

simh_back : (w : ℕ) → simh_value (w % 256) (w / 2 ^ 8 % 256) (w / 2 ^ 16 % 256) (w / 2 ^ 24 % 256) (w / 2 ^ 32) ≡ w
simh_back w = omega arith

simh_fits : (w : ℕ) → w < 2 ^ 36 → is_simh (w / 2 ^ 32) 0 0 0 ≡ true
simh_fits w h = rw (lt-ltb (w / 2 ^ 32) 16 (omega arith)) refl

simh_read : (ws : List ℕ) (number : ℕ) → AreBelow (2 ^ 36) ws → simh_words number (flat_map simh_bytes ws) ≡ Ok ws
unfolding simh_words
simh_read [] number h = refl
simh_read (w ∷ ws) number h =
    let tail = simh_words (number + 1) (flat_map simh_bytes ws) in
    let value = simh_value (w % 256) (w / 2 ^ 8 % 256) (w / 2 ^ 16 % 256) (w / 2 ^ 24 % 256) (w / 2 ^ 32) in
    ap (λ t. word_then number t value tail) (simh_fits w h.0)
    ∙ (ap (λ n. with_word n tail) (simh_back w) ∙ ap (with_word w) (simh_read ws (number + 1) h.1))

shared_high : (w v : ℕ) → v < 2 ^ 36 → (w % 16 * 16 + v / 2 ^ 32) / 16 ≡ w % 16
shared_high w v h = omega arith

shared_low : (w v : ℕ) → v < 2 ^ 36 → (w % 16 * 16 + v / 2 ^ 32) % 16 ≡ v / 2 ^ 32
shared_low w v h = omega arith

first_back : (w v : ℕ) → v < 2 ^ 36
    → five_bytes (w / 2 ^ 28) (w / 2 ^ 20 % 256) (w / 2 ^ 12 % 256) (w / 2 ^ 4 % 256) ((w % 16 * 16 + v / 2 ^ 32) / 16) ≡ w
first_back w v h =
    ap (five_bytes (w / 2 ^ 28) (w / 2 ^ 20 % 256) (w / 2 ^ 12 % 256) (w / 2 ^ 4 % 256)) (shared_high w v h) ∙ core_back w

second_back : (w v : ℕ) → v < 2 ^ 36
    → second_word (w % 16 * 16 + v / 2 ^ 32) (v / 2 ^ 24 % 256) (v / 2 ^ 16 % 256) (v / 2 ^ 8 % 256) (v % 256) ≡ v
second_back w v h =
    let e = shared_low w v h in
    omega (arith, e)

last_back : (w : ℕ) → five_bytes (w / 2 ^ 28) (w / 2 ^ 20 % 256) (w / 2 ^ 12 % 256) (w / 2 ^ 4 % 256) (w % 16 * 16 / 16) ≡ w
last_back w =
    let e : w % 16 * 16 / 16 ≡ w % 16 = omega arith in
    ap (five_bytes (w / 2 ^ 28) (w / 2 ^ 20 % 256) (w / 2 ^ 12 % 256) (w / 2 ^ 4 % 256)) e ∙ core_back w

last_fits : (w : ℕ) → (w % 16 * 16 % 16 == 0) ≡ true
last_fits w =
    let e : w % 16 * 16 % 16 ≡ 0 = omega arith in
    ap (λ n. n == 0) e

dense_read : (ws : List ℕ) (number : ℕ) → AreBelow (2 ^ 36) ws → dense_words number (dense_bytes ws) ≡ Ok ws
unfolding dense_words dense_bytes
dense_read [] number h = refl
dense_read (w ∷ []) number h =
    ap (λ t. word_then number t (five_bytes (w / 2 ^ 28) (w / 2 ^ 20 % 256) (w / 2 ^ 12 % 256) (w / 2 ^ 4 % 256) (w % 16 * 16 / 16)) (Ok [])) (last_fits w)
    ∙ ap (λ n. Ok (n ∷ [])) (last_back w)
dense_read (w ∷ v ∷ ws) number h =
    let tail = dense_words (number + 2) (dense_bytes ws) in
    let second = second_word (w % 16 * 16 + v / 2 ^ 32) (v / 2 ^ 24 % 256) (v / 2 ^ 16 % 256) (v / 2 ^ 8 % 256) (v % 256) in
    ap (λ n. with_word n (with_word second tail)) (first_back w v h.1.0)
    ∙ (ap (λ n. with_word w (with_word n tail)) (second_back w v h.1.0)
    ∙ ap (λ r. with_word w (with_word v r)) (dense_read ws (number + 2) h.1.1))

packed_read_below : (packing : Packing) (ws : List ℕ) → AreBelow (2 ^ 36) ws → unpacked packing (packed packing ws) ≡ Ok ws
unfolding unpacked packed
packed_read_below CoreDump ws h = core_read ws 1
packed_read_below HighDensity ws h = dense_read ws 1 h
packed_read_below AnsiAscii ws h = ascii_read ws 1 h
packed_read_below Simh ws h = simh_read ws 1 h
packed_read_below Octal ws h = octal_read ws 1 h

pub packed_read : (packing : Packing) (ws : List ℕ) → All (λ n. n < 2 ^ 36) ws → unpacked packing (packed packing ws) ≡ Ok ws
packed_read packing ws all = packed_read_below packing ws (are_below (2 ^ 36) ws all)

-- ---- from bytes to words and back

-- the words that were read have these bytes
abbrev pub IsBack : (List ℕ → List ℕ) → List ℕ → Words → Type 0
IsBack bytes bs (Ok ws) = bytes ws ≡ bs
IsBack bytes bs (Err fault) = Unit {0}

abbrev each : (ℕ → List ℕ) → List ℕ → List ℕ
each f ws = flat_map f ws

word_back : (f : ℕ → List ℕ) (w : ℕ) (own bs : List ℕ) (r : Words) → f w ≡ own → IsBack (each f) bs r → IsBack (each f) (own ++ bs) (with_word w r)
word_back f w own bs (Ok ws) e h = ap (λ l. l ++ flat_map f ws) e ∙ ap (λ l. own ++ l) h
word_back f w own bs (Err fault) e h = tt

then_back : (f : ℕ → List ℕ) (kind : PackErrorKind) (number w : ℕ) (own bs : List ℕ) (t : Bool) (r : Words) → (t ≡ true → f w ≡ own)
    → IsBack (each f) bs r → IsBack (each f) (own ++ bs) (word_or kind number t w r)
then_back f kind number w own bs true r e h = word_back f w own bs r (e refl) h
then_back f kind number w own bs false r e h = tt

five_same : (a b c d e a' b' c' d' e' : ℕ) → a ≡ a' → b ≡ b' → c ≡ c' → d ≡ d' → e ≡ e'
    → (a ∷ b ∷ c ∷ d ∷ e ∷ []) ≡ (a' ∷ b' ∷ c' ∷ d' ∷ e' ∷ [])
five_same a b c d e a' b' c' d' e' p q r s t = cc

core_same : (a b c d e : ℕ) → a < 256 → b < 256 → c < 256 → d < 256 → e < 16 → core_bytes (five_bytes a b c d e) ≡ a ∷ b ∷ c ∷ d ∷ e ∷ []
core_same a b c d e g h i j k =
    let w = five_bytes a b c d e in
    five_same (w / 2 ^ 28) (w / 2 ^ 20 % 256) (w / 2 ^ 12 % 256) (w / 2 ^ 4 % 256) (w % 16) a b c d e
    (omega arith) (omega arith) (omega arith) (omega arith) (omega arith)

core_bytes_back : (bs : List ℕ) (number : ℕ) → AreBelow 256 bs → IsBack (each core_bytes) bs (core_words number bs)
unfolding core_words
core_bytes_back [] number h = refl
core_bytes_back (a ∷ b ∷ c ∷ d ∷ e ∷ bs) number h =
    then_back core_bytes ExtraBits number (five_bytes a b c d e) (a ∷ b ∷ c ∷ d ∷ e ∷ []) bs (nat_lt e 16) (core_words (number + 1) bs)
    (λ t. core_same a b c d e h.0 h.1.0 h.1.1.0 h.1.1.1.0 (ltb-true e 16 t))
    (core_bytes_back bs (number + 1) h.1.1.1.1.1)
core_bytes_back (a ∷ []) number h = tt
core_bytes_back (a ∷ b ∷ []) number h = tt
core_bytes_back (a ∷ b ∷ c ∷ []) number h = tt
core_bytes_back (a ∷ b ∷ c ∷ d ∷ []) number h = tt

ascii_same : (a b c d e : ℕ) → a < 128 → b < 128 → c < 128 → d < 128 → e < 256 → ascii_bytes (ascii_value a b c d e) ≡ a ∷ b ∷ c ∷ d ∷ e ∷ []
ascii_same a b c d e g h i j k =
    let w = ascii_value a b c d e in
    let low : w % 2 ≡ e / 128 = omega arith in
    let next : w / 2 % 128 ≡ e % 128 = omega arith in
    five_same (w / 2 ^ 29) (w / 2 ^ 22 % 128) (w / 2 ^ 15 % 128) (w / 2 ^ 8 % 128) (w % 2 * 128 + w / 2 % 128) a b c d e
    (omega arith) (omega arith) (omega arith) (omega arith) (omega (arith, low, next))

characters : (a b c d : ℕ) → are_characters a b c d ≡ true → (a < 128) × (b < 128) × (c < 128) × (d < 128)
characters a b c d h =
    let p = and_parts (nat_lt a 128) (nat_lt b 128 && (nat_lt c 128 && nat_lt d 128)) h in
    let q = and_parts (nat_lt b 128) (nat_lt c 128 && nat_lt d 128) p.1 in
    let r = and_parts (nat_lt c 128) (nat_lt d 128) q.1 in
    (ltb-true a 128 p.0, ltb-true b 128 q.0, ltb-true c 128 r.0, ltb-true d 128 r.1)

ascii_bytes_back : (bs : List ℕ) (number : ℕ) → AreBelow 256 bs → IsBack (each ascii_bytes) bs (ascii_words number bs)
unfolding ascii_words
ascii_bytes_back [] number h = refl
ascii_bytes_back (a ∷ b ∷ c ∷ d ∷ e ∷ bs) number h =
    then_back ascii_bytes ExtraBits number (ascii_value a b c d e) (a ∷ b ∷ c ∷ d ∷ e ∷ []) bs (are_characters a b c d) (ascii_words (number + 1) bs)
    (λ t. let p = characters a b c d t in ascii_same a b c d e p.0 p.1 p.2 p.3 h.1.1.1.1.0)
    (ascii_bytes_back bs (number + 1) h.1.1.1.1.1)
ascii_bytes_back (a ∷ []) number h = tt
ascii_bytes_back (a ∷ b ∷ []) number h = tt
ascii_bytes_back (a ∷ b ∷ c ∷ []) number h = tt
ascii_bytes_back (a ∷ b ∷ c ∷ d ∷ []) number h = tt

simh_same : (a b c d e f g h : ℕ) → a < 256 → b < 256 → c < 256 → d < 256 → e < 16 → f ≡ 0 → g ≡ 0 → h ≡ 0
    → simh_bytes (simh_value a b c d e) ≡ a ∷ b ∷ c ∷ d ∷ e ∷ f ∷ g ∷ h ∷ []
simh_same a b c d e f g h i j k l m x y z =
    let w = simh_value a b c d e in
    let p : w % 256 ≡ a = omega arith in
    let q : w / 2 ^ 8 % 256 ≡ b = omega arith in
    let r : w / 2 ^ 16 % 256 ≡ c = omega arith in
    let s : w / 2 ^ 24 % 256 ≡ d = omega arith in
    let t : w / 2 ^ 32 ≡ e = omega arith in
    cc

is_simh_parts : (e f g h : ℕ) → is_simh e f g h ≡ true → (e < 16) × (f ≡ 0) × (g ≡ 0) × (h ≡ 0)
is_simh_parts e f g h t =
    let p = and_parts (nat_lt e 16) (f == 0 && (g == 0 && h == 0)) t in
    let q = and_parts (f == 0) (g == 0 && h == 0) p.1 in
    let r = and_parts (g == 0) (h == 0) q.1 in
    (ltb-true e 16 p.0, eqb-true f 0 q.0, eqb-true g 0 r.0, eqb-true h 0 r.1)

simh_bytes_back : (bs : List ℕ) (number : ℕ) → AreBelow 256 bs → IsBack (each simh_bytes) bs (simh_words number bs)
unfolding simh_words
simh_bytes_back [] number h = refl
simh_bytes_back (a ∷ b ∷ c ∷ d ∷ e ∷ f ∷ g ∷ i ∷ bs) number h =
    then_back simh_bytes ExtraBits number (simh_value a b c d e) (a ∷ b ∷ c ∷ d ∷ e ∷ f ∷ g ∷ i ∷ []) bs (is_simh e f g i) (simh_words (number + 1) bs)
    (λ t. let p = is_simh_parts e f g i t in simh_same a b c d e f g i h.0 h.1.0 h.1.1.0 h.1.1.1.0 p.0 p.1 p.2 p.3)
    (simh_bytes_back bs (number + 1) h.1.1.1.1.1.1.1.1)
simh_bytes_back (a ∷ []) number h = tt
simh_bytes_back (a ∷ b ∷ []) number h = tt
simh_bytes_back (a ∷ b ∷ c ∷ []) number h = tt
simh_bytes_back (a ∷ b ∷ c ∷ d ∷ []) number h = tt
simh_bytes_back (a ∷ b ∷ c ∷ d ∷ e ∷ []) number h = tt
simh_bytes_back (a ∷ b ∷ c ∷ d ∷ e ∷ f ∷ []) number h = tt
simh_bytes_back (a ∷ b ∷ c ∷ d ∷ e ∷ f ∷ g ∷ []) number h = tt

octal_bytes_back : (bs : List ℕ) (number : ℕ) → IsBack (each octal_bytes) bs (octal_words number bs)
unfolding octal_words
octal_bytes_back [] number = refl
octal_bytes_back (a ∷ b ∷ c ∷ d ∷ e ∷ f ∷ p ∷ q ∷ g ∷ i ∷ j ∷ k ∷ l ∷ m ∷ z ∷ bs) number =
    then_back octal_bytes NotOctal number (joined (half_value a b c d e f) (half_value g i j k l m)) (a ∷ b ∷ c ∷ d ∷ e ∷ f ∷ p ∷ q ∷ g ∷ i ∷ j ∷ k ∷ l ∷ m ∷ z ∷ []) bs
    (are_octal_digits a b c d e f && (are_octal_digits g i j k l m && are_marks p q z)) (octal_words (number + 1) bs)
    (λ t. line_same a b c d e f p q g i j k l m z t) (octal_bytes_back bs (number + 1))
octal_bytes_back (a ∷ []) number = tt
octal_bytes_back (a ∷ b ∷ []) number = tt
octal_bytes_back (a ∷ b ∷ c ∷ []) number = tt
octal_bytes_back (a ∷ b ∷ c ∷ d ∷ []) number = tt
octal_bytes_back (a ∷ b ∷ c ∷ d ∷ e ∷ []) number = tt
octal_bytes_back (a ∷ b ∷ c ∷ d ∷ e ∷ f ∷ []) number = tt
octal_bytes_back (a ∷ b ∷ c ∷ d ∷ e ∷ f ∷ p ∷ []) number = tt
octal_bytes_back (a ∷ b ∷ c ∷ d ∷ e ∷ f ∷ p ∷ q ∷ []) number = tt
octal_bytes_back (a ∷ b ∷ c ∷ d ∷ e ∷ f ∷ p ∷ q ∷ g ∷ []) number = tt
octal_bytes_back (a ∷ b ∷ c ∷ d ∷ e ∷ f ∷ p ∷ q ∷ g ∷ i ∷ []) number = tt
octal_bytes_back (a ∷ b ∷ c ∷ d ∷ e ∷ f ∷ p ∷ q ∷ g ∷ i ∷ j ∷ []) number = tt
octal_bytes_back (a ∷ b ∷ c ∷ d ∷ e ∷ f ∷ p ∷ q ∷ g ∷ i ∷ j ∷ k ∷ []) number = tt
octal_bytes_back (a ∷ b ∷ c ∷ d ∷ e ∷ f ∷ p ∷ q ∷ g ∷ i ∷ j ∷ k ∷ l ∷ []) number = tt
octal_bytes_back (a ∷ b ∷ c ∷ d ∷ e ∷ f ∷ p ∷ q ∷ g ∷ i ∷ j ∷ k ∷ l ∷ m ∷ []) number = tt

last_same : (a b c d e : ℕ) → a < 256 → b < 256 → c < 256 → d < 256 → e < 256 → e % 16 ≡ 0
    → dense_last (five_bytes a b c d (e / 16)) ≡ a ∷ b ∷ c ∷ d ∷ e ∷ []
last_same a b c d e g h i j k z =
    let w = five_bytes a b c d (e / 16) in
    let low : w % 16 ≡ e / 16 = omega arith in
    five_same (w / 2 ^ 28) (w / 2 ^ 20 % 256) (w / 2 ^ 12 % 256) (w / 2 ^ 4 % 256) (w % 16 * 16) a b c d e
    (omega arith) (omega arith) (omega arith) (omega arith) (omega (arith, low))

last_back_if : (number a b c d e : ℕ) (t : Bool) → (t ≡ true → dense_last (five_bytes a b c d (e / 16)) ≡ a ∷ b ∷ c ∷ d ∷ e ∷ [])
    → IsBack dense_bytes (a ∷ b ∷ c ∷ d ∷ e ∷ []) (word_then number t (five_bytes a b c d (e / 16)) (Ok []))
unfolding dense_bytes
last_back_if number a b c d e true h = h refl
last_back_if number a b c d e false h = tt

nine_same : (a b c d e f g h i : ℕ) (rest : List ℕ) → a < 256 → b < 256 → c < 256 → d < 256 → e < 256 → f < 256 → g < 256 → h < 256 → i < 256
    → dense_pair (five_bytes a b c d (e / 16)) (second_word e f g h i) rest ≡ a ∷ b ∷ c ∷ d ∷ e ∷ f ∷ g ∷ h ∷ i ∷ rest
nine_same a b c d e f g h i rest ba bb bc bd be bf bg bh bi =
    let w = five_bytes a b c d (e / 16) in
    let v = second_word e f g h i in
    let p : w / 2 ^ 28 ≡ a = omega arith in
    let q : w / 2 ^ 20 % 256 ≡ b = omega arith in
    let r : w / 2 ^ 12 % 256 ≡ c = omega arith in
    let s : w / 2 ^ 4 % 256 ≡ d = omega arith in
    let low : w % 16 ≡ e / 16 = omega arith in
    let high : v / 2 ^ 32 ≡ e % 16 = omega arith in
    let t : w % 16 * 16 + v / 2 ^ 32 ≡ e = omega (arith, low, high) in
    let u : v / 2 ^ 24 % 256 ≡ f = omega arith in
    let x : v / 2 ^ 16 % 256 ≡ g = omega arith in
    let y : v / 2 ^ 8 % 256 ≡ h = omega arith in
    let z : v % 256 ≡ i = omega arith in
    cc

pair_back : (w v : ℕ) (all bs : List ℕ) (r : Words) → ((rest : List ℕ) → rest ≡ bs → dense_pair w v rest ≡ all) → IsBack dense_bytes bs r
    → IsBack dense_bytes all (with_word w (with_word v r))
unfolding dense_bytes
pair_back w v all bs (Ok ws) e h = e (dense_bytes ws) h
pair_back w v all bs (Err fault) e h = tt

dense_bytes_back : (bs : List ℕ) (number : ℕ) → AreBelow 256 bs → IsBack dense_bytes bs (dense_words number bs)
unfolding dense_words dense_bytes
dense_bytes_back [] number h = refl
dense_bytes_back (a ∷ b ∷ c ∷ d ∷ e ∷ []) number h =
    last_back_if number a b c d e (e % 16 == 0)
    (λ t. last_same a b c d e h.0 h.1.0 h.1.1.0 h.1.1.1.0 h.1.1.1.1.0 (eqb-true (e % 16) 0 t))
dense_bytes_back (a ∷ b ∷ c ∷ d ∷ e ∷ f ∷ g ∷ k ∷ i ∷ bs) number h =
    pair_back (five_bytes a b c d (e / 16)) (second_word e f g k i) (a ∷ b ∷ c ∷ d ∷ e ∷ f ∷ g ∷ k ∷ i ∷ bs) bs (dense_words (number + 2) bs)
    (λ rest same.
    nine_same a b c d e f g k i rest h.0 h.1.0 h.1.1.0 h.1.1.1.0 h.1.1.1.1.0 h.1.1.1.1.1.0 h.1.1.1.1.1.1.0 h.1.1.1.1.1.1.1.0 h.1.1.1.1.1.1.1.1.0
    ∙ ap (λ l. a ∷ b ∷ c ∷ d ∷ e ∷ f ∷ g ∷ k ∷ i ∷ l) same)
    (dense_bytes_back bs (number + 2) h.1.1.1.1.1.1.1.1.1)
dense_bytes_back (a ∷ []) number h = tt
dense_bytes_back (a ∷ b ∷ []) number h = tt
dense_bytes_back (a ∷ b ∷ c ∷ []) number h = tt
dense_bytes_back (a ∷ b ∷ c ∷ d ∷ []) number h = tt
dense_bytes_back (a ∷ b ∷ c ∷ d ∷ e ∷ f ∷ []) number h = tt
dense_bytes_back (a ∷ b ∷ c ∷ d ∷ e ∷ f ∷ g ∷ []) number h = tt
dense_bytes_back (a ∷ b ∷ c ∷ d ∷ e ∷ f ∷ g ∷ k ∷ []) number h = tt

bytes_back : (packing : Packing) (bs : List ℕ) → AreBelow 256 bs → IsBack (packed packing) bs (unpacked packing bs)
unfolding unpacked packed
bytes_back CoreDump bs h = core_bytes_back bs 1 h
bytes_back HighDensity bs h = dense_bytes_back bs 1 h
bytes_back AnsiAscii bs h = ascii_bytes_back bs 1 h
bytes_back Simh bs h = simh_bytes_back bs 1 h
bytes_back Octal bs h = octal_bytes_back bs 1

ok_back : (bytes : List ℕ → List ℕ) (bs ws : List ℕ) (r : Words) → r ≡ Ok ws → IsBack bytes bs r → bytes ws ≡ bs
ok_back bytes bs ws (Ok vs) e h =
    let same : vs ≡ ws = cc in
    ap bytes (sym same) ∙ h
ok_back bytes bs ws (Err fault) e h = absurd (cc)

pub unpacked_packed : (packing : Packing) (bs ws : List ℕ) → All (λ n. n < 256) bs → unpacked packing bs ≡ Ok ws → packed packing ws ≡ bs
unpacked_packed packing bs ws all e =
    ok_back (packed packing) bs ws (unpacked packing bs) e (bytes_back packing bs (are_below 256 bs all))

-- ---- two words at the front

front_pair : (a b : ℕ) (more : List ℕ) → dense_pair a b (dense_bytes more) ≡ dense_bytes (a ∷ b ∷ more)
unfolding dense_bytes
front_pair a b more = refl

pub dense_step : (out new pair rest all : List ℕ) (k a b : ℕ) → 1 < length rest → a ≡ get_or rest 0 a → b ≡ get_or rest 1 b
    → pair ≡ dense_pair a b [] → new ≡ out ++ pair → k ≡ length rest - 2 → out ++ dense_bytes rest ≡ all
    → new ++ dense_bytes (take k (drop 2 rest)) ≡ all
dense_step out new pair [] all k a b l e f g i j h = absurd (omega arith)
dense_step out new pair (x ∷ []) all k a b l e f g i j h = absurd (omega arith)
dense_step out new pair (x ∷ y ∷ more) all k a b l e f g i j h =
    let behind : take k more ≡ more = take_all k more (omega arith) in
    ap (λ m. new ++ dense_bytes m) behind
    ∙ (ap (λ m. m ++ dense_bytes more) (i ∙ ap (λ p. out ++ p) g)
    ∙ (append_assoc out (dense_pair a b []) (dense_bytes more)
    ∙ (ap (λ m. out ++ m) (ap (λ n. dense_pair n b (dense_bytes more)) e ∙ (ap (λ n. dense_pair x n (dense_bytes more)) f ∙ front_pair x y more)) ∙ h)))

pub dense_one : (out new own rest all : List ℕ) (a : ℕ) → length rest ≡ 1 → a ≡ get_or rest 0 a → own ≡ dense_last a → new ≡ out ++ own
    → out ++ dense_bytes rest ≡ all → new ≡ all
unfolding dense_bytes
dense_one out new own [] all a l e g i h = absurd (omega arith)
dense_one out new own (x ∷ []) all a l e g i h = i ∙ (ap (λ m. out ++ m) (g ∙ ap dense_last e) ∙ h)
dense_one out new own (x ∷ y ∷ more) all a l e g i h = absurd (omega arith)

pub dense_none : (out rest all : List ℕ) → length rest ≡ 0 → out ++ dense_bytes rest ≡ all → out ≡ all
unfolding dense_bytes
dense_none out [] all l h = sym (append-nil out) ∙ h
dense_none out (x ∷ rest) all l h = absurd (omega arith)
