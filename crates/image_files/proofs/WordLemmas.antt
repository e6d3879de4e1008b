-- Words that are read from bytes, and those of the file of an image, are below 2 ^ 36.
use Rattle.std.proofs.Common.{◌≡◌, sym, subst, ℕ, zero, suc, ◌+◌, ◌/◌, ◌%◌, ◌^◌, ◌<◌, ◌≤◌, ◌==◌, Bool, true, false, ◌&&◌, nat_lt, List, [], ◌∷◌, ◌++◌}
use Rattle.std.proofs.Common.{length, Result, Ok, Err, refl, arith, if◌then◌else◌, append_assoc}
use Rattle.std.specs.Prelude.{All, flat_map}
use Rattle.std.proofs.lemmas.Bool.{and_parts, ltb-true}
use Rattle.image_files.proofs.Bounds.{AreBelow, are_below}
use Rattle.image_files.specs.Images.{IsImage, WordsFit}
use Rattle.image_files.specs.declared.packings.Packing.{Packing}
use Rattle.image_files.specs.declared.packings.Packing.TheVariants.{CoreDump, HighDensity, AnsiAscii, Simh, Octal}
use Rattle.image_files.specs.declared.packings.PackErrorKind.{PackErrorKind}
use Rattle.image_files.specs.declared.packings.PackErrorKind.TheVariants.{ExtraBits, NotOctal}
use Rattle.image_files.specs.Packings.{Words, with_word, word_or, five_bytes, core_words, ascii_value, are_characters, ascii_words}
use Rattle.image_files.specs.Packings.{simh_value, is_simh, simh_words, second_word, dense_words, unpacked}
use Rattle.image_files.specs.Packings.{are_octal_digits, are_marks, half_value, octal_words}
use Rattle.word36.specs.Words.{joined}
use Rattle.image_files.proofs.OctalLines.{line_small}
use Rattle.image_files.specs.declared.saves.SaveErrorKind.{SaveErrorKind}
use Rattle.image_files.specs.declared.saves.SaveErrorKind.TheVariants.{Behind}
use Rattle.image_files.specs.declared.save_reader.Head.{Head}
use Rattle.image_files.specs.declared.save_reader.Head.TheVariants.{Block as block, Start as start_at}
use Rattle.image_files.specs.Saves.{Loaded, SaveFault, Block, block_before, blocks_of, block_words, iowd, jrst, save_of}
use Rattle.image_files.specs.Saves.{with_word as before_image, ended_by, head_at, image_from, image_of_save}
use Rattle.image_files.proofs.SaveLemmas.{headed, head_first}

-- ---- bounds

all_below : (limit : ℕ) (ns : List ℕ) → AreBelow limit ns → All (λ n. n < limit) ns
all_below limit [] h k d l = absurd (omega arith)
all_below limit (n ∷ ns) h zero d l = h.0
all_below limit (n ∷ ns) h (suc k) d l = all_below limit ns h.1 k d (omega arith)

below_append : (limit : ℕ) (ms ns : List ℕ) → AreBelow limit ms → AreBelow limit ns → AreBelow limit (ms ++ ns)
below_append limit [] ns h k = k
below_append limit (m ∷ ms) ns h k = (h.0, below_append limit ms ns h.1 k)

-- ---- words that are read

abbrev Fit : Words → Type 0
Fit (Ok ws) = AreBelow (2 ^ 36) ws
Fit (Err fault) = Unit {0}

word_fit : (w : ℕ) (r : Words) → w < 2 ^ 36 → Fit r → Fit (with_word w r)
word_fit w (Ok ws) h f = (h, f)
word_fit w (Err fault) h f = tt

then_fit : (kind : PackErrorKind) (number w : ℕ) (t : Bool) (r : Words) → (t ≡ true → w < 2 ^ 36) → Fit r → Fit (word_or kind number t w r)
then_fit kind number w true r h f = word_fit w r (h refl) f
then_fit kind number w false r h f = tt

five_below : (a b c d e : ℕ) → a < 256 → b < 256 → c < 256 → d < 256 → e < 16 → five_bytes a b c d e < 2 ^ 36
five_below a b c d e g h i j k = omega arith

core_fit : (bs : List ℕ) (number : ℕ) → AreBelow 256 bs → Fit (core_words number bs)
unfolding core_words
core_fit [] number h = tt
core_fit (a ∷ b ∷ c ∷ d ∷ e ∷ bs) number h =
    then_fit ExtraBits number (five_bytes a b c d e) (nat_lt e 16) (core_words (number + 1) bs)
    (λ t. five_below a b c d e h.0 h.1.0 h.1.1.0 h.1.1.1.0 (ltb-true e 16 t)) (core_fit bs (number + 1) h.1.1.1.1.1)
core_fit (a ∷ []) number h = tt
core_fit (a ∷ b ∷ []) number h = tt
core_fit (a ∷ b ∷ c ∷ []) number h = tt
core_fit (a ∷ b ∷ c ∷ d ∷ []) number h = tt

characters_below : (a b c d e : ℕ) → are_characters a b c d ≡ true → e < 256 → ascii_value a b c d e < 2 ^ 36
characters_below a b c d e h k =
    let p = and_parts (nat_lt a 128) (nat_lt b 128 && (nat_lt c 128 && nat_lt d 128)) h in
    let q = and_parts (nat_lt b 128) (nat_lt c 128 && nat_lt d 128) p.1 in
    let r = and_parts (nat_lt c 128) (nat_lt d 128) q.1 in
    omega (arith, ltb-true a 128 p.0, ltb-true b 128 q.0, ltb-true c 128 r.0, ltb-true d 128 r.1)

ascii_fit : (bs : List ℕ) (number : ℕ) → AreBelow 256 bs → Fit (ascii_words number bs)
unfolding ascii_words
ascii_fit [] number h = tt
ascii_fit (a ∷ b ∷ c ∷ d ∷ e ∷ bs) number h =
    then_fit ExtraBits number (ascii_value a b c d e) (are_characters a b c d) (ascii_words (number + 1) bs)
    (λ t. characters_below a b c d e t h.1.1.1.1.0) (ascii_fit bs (number + 1) h.1.1.1.1.1)
ascii_fit (a ∷ []) number h = tt
ascii_fit (a ∷ b ∷ []) number h = tt
ascii_fit (a ∷ b ∷ c ∷ []) number h = tt
ascii_fit (a ∷ b ∷ c ∷ d ∷ []) number h = tt

simh_below : (a b c d e f g h : ℕ) → is_simh e f g h ≡ true → a < 256 → b < 256 → c < 256 → d < 256 → simh_value a b c d e < 2 ^ 36
simh_below a b c d e f g h t i j k l =
    let p = and_parts (nat_lt e 16) (f == 0 && (g == 0 && h == 0)) t in
    omega (arith, ltb-true e 16 p.0)

simh_fit : (bs : List ℕ) (number : ℕ) → AreBelow 256 bs → Fit (simh_words number bs)
unfolding simh_words
simh_fit [] number h = tt
simh_fit (a ∷ b ∷ c ∷ d ∷ e ∷ f ∷ g ∷ i ∷ bs) number h =
    then_fit ExtraBits number (simh_value a b c d e) (is_simh e f g i) (simh_words (number + 1) bs)
    (λ t. simh_below a b c d e f g i t h.0 h.1.0 h.1.1.0 h.1.1.1.0) (simh_fit bs (number + 1) h.1.1.1.1.1.1.1.1)
simh_fit (a ∷ []) number h = tt
simh_fit (a ∷ b ∷ []) number h = tt
simh_fit (a ∷ b ∷ c ∷ []) number h = tt
simh_fit (a ∷ b ∷ c ∷ d ∷ []) number h = tt
simh_fit (a ∷ b ∷ c ∷ d ∷ e ∷ []) number h = tt
simh_fit (a ∷ b ∷ c ∷ d ∷ e ∷ f ∷ []) number h = tt
simh_fit (a ∷ b ∷ c ∷ d ∷ e ∷ f ∷ g ∷ []) number h = tt

second_below : (e f g h i : ℕ) → f < 256 → g < 256 → h < 256 → i < 256 → second_word e f g h i < 2 ^ 36
second_below e f g h i j k l m =
    let low : e % 16 < 16 = omega arith in
    omega (arith, low)

dense_fit : (bs : List ℕ) (number : ℕ) → AreBelow 256 bs → Fit (dense_words number bs)
unfolding dense_words
dense_fit [] number h = tt
dense_fit (a ∷ b ∷ c ∷ d ∷ e ∷ []) number h =
    let high : e / 16 < 16 = omega (arith, h.1.1.1.1.0) in
    then_fit ExtraBits number (five_bytes a b c d (e / 16)) (e % 16 == 0) (Ok [])
    (λ t. five_below a b c d (e / 16) h.0 h.1.0 h.1.1.0 h.1.1.1.0 high) tt
dense_fit (a ∷ b ∷ c ∷ d ∷ e ∷ f ∷ g ∷ k ∷ i ∷ bs) number h =
    let high : e / 16 < 16 = omega (arith, h.1.1.1.1.0) in
    word_fit (five_bytes a b c d (e / 16)) (with_word (second_word e f g k i) (dense_words (number + 2) bs))
    (five_below a b c d (e / 16) h.0 h.1.0 h.1.1.0 h.1.1.1.0 high)
    (word_fit (second_word e f g k i) (dense_words (number + 2) bs)
    (second_below e f g k i h.1.1.1.1.1.0 h.1.1.1.1.1.1.0 h.1.1.1.1.1.1.1.0 h.1.1.1.1.1.1.1.1.0)
    (dense_fit bs (number + 2) h.1.1.1.1.1.1.1.1.1))
dense_fit (a ∷ []) number h = tt
dense_fit (a ∷ b ∷ []) number h = tt
dense_fit (a ∷ b ∷ c ∷ []) number h = tt
dense_fit (a ∷ b ∷ c ∷ d ∷ []) number h = tt
dense_fit (a ∷ b ∷ c ∷ d ∷ e ∷ f ∷ []) number h = tt
dense_fit (a ∷ b ∷ c ∷ d ∷ e ∷ f ∷ g ∷ []) number h = tt
dense_fit (a ∷ b ∷ c ∷ d ∷ e ∷ f ∷ g ∷ k ∷ []) number h = tt

octal_fit : (bs : List ℕ) (number : ℕ) → Fit (octal_words number bs)
unfolding octal_words
octal_fit [] number = tt
octal_fit (a ∷ b ∷ c ∷ d ∷ e ∷ f ∷ p ∷ q ∷ g ∷ i ∷ j ∷ k ∷ l ∷ m ∷ z ∷ bs) number =
    then_fit NotOctal number (joined (half_value a b c d e f) (half_value g i j k l m))
    (are_octal_digits a b c d e f && (are_octal_digits g i j k l m && are_marks p q z)) (octal_words (number + 1) bs)
    (λ t. line_small a b c d e f g i j k l m) (octal_fit bs (number + 1))
octal_fit (a ∷ []) number = tt
octal_fit (a ∷ b ∷ []) number = tt
octal_fit (a ∷ b ∷ c ∷ []) number = tt
octal_fit (a ∷ b ∷ c ∷ d ∷ []) number = tt
octal_fit (a ∷ b ∷ c ∷ d ∷ e ∷ []) number = tt
octal_fit (a ∷ b ∷ c ∷ d ∷ e ∷ f ∷ []) number = tt
octal_fit (a ∷ b ∷ c ∷ d ∷ e ∷ f ∷ p ∷ []) number = tt
octal_fit (a ∷ b ∷ c ∷ d ∷ e ∷ f ∷ p ∷ q ∷ []) number = tt
octal_fit (a ∷ b ∷ c ∷ d ∷ e ∷ f ∷ p ∷ q ∷ g ∷ []) number = tt
octal_fit (a ∷ b ∷ c ∷ d ∷ e ∷ f ∷ p ∷ q ∷ g ∷ i ∷ []) number = tt
octal_fit (a ∷ b ∷ c ∷ d ∷ e ∷ f ∷ p ∷ q ∷ g ∷ i ∷ j ∷ []) number = tt
octal_fit (a ∷ b ∷ c ∷ d ∷ e ∷ f ∷ p ∷ q ∷ g ∷ i ∷ j ∷ k ∷ []) number = tt
octal_fit (a ∷ b ∷ c ∷ d ∷ e ∷ f ∷ p ∷ q ∷ g ∷ i ∷ j ∷ k ∷ l ∷ []) number = tt
octal_fit (a ∷ b ∷ c ∷ d ∷ e ∷ f ∷ p ∷ q ∷ g ∷ i ∷ j ∷ k ∷ l ∷ m ∷ []) number = tt

unpacked_fit : (packing : Packing) (bs : List ℕ) → AreBelow 256 bs → Fit (unpacked packing bs)
unfolding unpacked
unpacked_fit CoreDump bs h = core_fit bs 1 h
unpacked_fit HighDensity bs h = dense_fit bs 1 h
unpacked_fit AnsiAscii bs h = ascii_fit bs 1 h
unpacked_fit Simh bs h = simh_fit bs 1 h
unpacked_fit Octal bs h = octal_fit bs 1

ok_fit : (ws : List ℕ) (r : Words) → r ≡ Ok ws → Fit r → AreBelow (2 ^ 36) ws
ok_fit ws (Ok vs) e f =
    let same : vs ≡ ws = cc in
    subst (AreBelow (2 ^ 36)) same f
ok_fit ws (Err fault) e f = absurd (cc)

pub read_fit : (packing : Packing) (bs ws : List ℕ) → All (λ b. b < 256) bs → unpacked packing bs ≡ Ok ws → All (λ w. w < 2 ^ 36) ws
read_fit packing bs ws all e = all_below (2 ^ 36) ws (ok_fit ws (unpacked packing bs) e (unpacked_fit packing bs (are_below 256 bs all)))

-- ---- words of files

abbrev FitBlocks : List Block → Type 0
FitBlocks [] = Unit {0}
FitBlocks (b ∷ bs) = (0 < length b.words) × (length b.words ≤ 2 ^ 17) × AreBelow (2 ^ 36) b.words × FitBlocks bs

choice_fit : (t : Bool) (x : ℕ × ℕ) (b : Block) (bs : List Block) → (t ≡ true → length b.words < 2 ^ 17) → x.1 < 2 ^ 36 → FitBlocks (b ∷ bs)
    → FitBlocks (if t then record { address = x.0; words = x.1 ∷ b.words } ∷ bs else record { address = x.0; words = x.1 ∷ [] } ∷ b ∷ bs)
choice_fit true x b bs h k fit =
    let few : length b.words < 2 ^ 17 = h refl in
    (omega arith, omega arith, (k, fit.2), fit.3)
choice_fit false x b bs h k fit = (omega arith, omega arith, (k, tt), fit)

before_fit : (x : ℕ × ℕ) (bs : List Block) → x.1 < 2 ^ 36 → FitBlocks bs → FitBlocks (block_before x bs)
before_fit x [] k fit = (omega arith, omega arith, (k, tt), tt)
before_fit x (b ∷ bs) k fit =
    let test = b.address == x.0 + 1 && nat_lt (length b.words) (2 ^ 17) in
    choice_fit test x b bs
    (λ h. ltb-true (length b.words) (2 ^ 17) (and_parts (b.address == x.0 + 1) (nat_lt (length b.words) (2 ^ 17)) h).1) k fit

abbrev AllFit : List (ℕ × ℕ) → Type 0
AllFit [] = Unit {0}
AllFit (x ∷ xs) = (x.1 < 2 ^ 36) × AllFit xs

all_fit : (xs : List (ℕ × ℕ)) → WordsFit xs → AllFit xs
all_fit [] fit = tt
all_fit (x ∷ xs) fit = (fit 0 x (omega arith), all_fit xs (λ k d h. fit (suc k) d (omega arith)))

words_fit : (xs : List (ℕ × ℕ)) → AllFit xs → WordsFit xs
words_fit [] fit k d l = absurd (omega arith)
words_fit (x ∷ xs) fit zero d l = fit.0
words_fit (x ∷ xs) fit (suc k) d l = words_fit xs fit.1 k d (omega arith)

blocks_fit : (xs : List (ℕ × ℕ)) → AllFit xs → FitBlocks (blocks_of xs)
unfolding blocks_of
blocks_fit [] fit = tt
blocks_fit (x ∷ xs) fit = before_fit x (blocks_of xs) fit.0 (blocks_fit xs fit.1)

iowd_below : (n p : ℕ) → 0 < n → n ≤ 2 ^ 17 → iowd n p < 2 ^ 36
iowd_below n p h k = omega arith

file_below : (start : ℕ) (bs : List Block) → FitBlocks bs → start < 2 ^ 18 → AreBelow (2 ^ 36) (flat_map block_words bs ++ jrst start ∷ [])
file_below start [] fit h = (omega arith, tt)
file_below start (b ∷ bs) fit h =
    subst (AreBelow (2 ^ 36)) (sym (append_assoc (block_words b) (flat_map block_words bs) (jrst start ∷ [])))
    (below_append (2 ^ 36) (block_words b) (flat_map block_words bs ++ jrst start ∷ [])
    (iowd_below (length b.words) b.address fit.0 fit.1, fit.2) (file_below start bs fit.3 h))

pub save_fit : (image : Loaded) → IsImage image.words image.start → WordsFit image.words → All (λ w. w < 2 ^ 36) (save_of image)
unfolding save_of
save_fit image is fit =
    all_below (2 ^ 36) (flat_map block_words (blocks_of image.words) ++ jrst image.start ∷ [])
    (file_below image.start (blocks_of image.words) (blocks_fit image.words (all_fit image.words fit)) is.start_fits)

-- ---- words of images that are read

abbrev LoadFits : Result Loaded SaveFault → Type 0
LoadFits (Ok image) = AllFit image.words
LoadFits (Err fault) = Unit {0}

load_word : (x : ℕ × ℕ) (r : Result Loaded SaveFault) → x.1 < 2 ^ 36 → LoadFits r → LoadFits (before_image x r)
load_word x (Ok image) h f = (h, f)
load_word x (Err fault) h f = tt

load_choice : (b : Bool) (fault : SaveFault) (r : Result Loaded SaveFault) → LoadFits r → LoadFits (if b then r else Err fault)
load_choice true fault r f = f
load_choice false fault r f = tt

load_end : (start number : ℕ) (ws : List ℕ) → LoadFits (ended_by start number ws)
unfolding ended_by
load_end start number [] = tt
load_end start number (w ∷ ws) =
    load_choice (w == 0) (record { number = number; kind = Behind }) (ended_by start (number + 1) ws) (load_end start (number + 1) ws)

load_head : (number : ℕ) (ws : List ℕ) (h : Result Head SaveErrorKind)
    → ((n count first : ℕ) → LoadFits (image_from n count first ws)) → LoadFits (headed number h ws)
load_head number ws (Err kind) later = tt
load_head number ws (Ok (block count first)) later = later (number + 1) count first
load_head number ws (Ok (start_at start)) later = load_end start (number + 1) ws

load_fits : (ws : List ℕ) (number left address : ℕ) → AreBelow (2 ^ 36) ws → LoadFits (image_from number left address ws)
unfolding image_from
load_fits [] number zero address h = tt
load_fits [] number (suc left) address h = tt
load_fits (w ∷ ws) number (suc left) address h =
    load_word (address, w) (image_from (number + 1) left (address + 1) ws) h.0 (load_fits ws (number + 1) left (address + 1) h.1)
load_fits (w ∷ ws) number zero address h =
    subst LoadFits (sym (head_first number address w ws (head_at address w) refl))
    (load_head number ws (head_at address w) (λ n count first. load_fits ws n count first h.1))

found_fits : (image : Loaded) (r : Result Loaded SaveFault) → r ≡ Ok image → LoadFits r → WordsFit image.words
found_fits image (Ok found) e f =
    let same : found ≡ image = cc in
    words_fit image.words (subst (λ (i : Loaded). AllFit i.words) same f)
found_fits image (Err fault) e f = absurd (cc)

pub image_fits : (ws : List ℕ) (image : Loaded) → All (λ w. w < 2 ^ 36) ws → image_of_save ws ≡ Ok image → WordsFit image.words
unfolding image_of_save
image_fits ws image all e = found_fits image (image_from 1 0 0 ws) e (load_fits ws 1 0 0 (are_below (2 ^ 36) ws all))
