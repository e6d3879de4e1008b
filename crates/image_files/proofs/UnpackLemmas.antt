-- The loops that read words from bytes: the words so far before those of the rest are the words of all.
use Rattle.std.proofs.Common.{◌≡◌, ◌∙◌, sym, ap, ℕ, ◌+◌, ◌-◌, ◌/◌, ◌%◌, ◌<◌, ◌≤◌, ◌==◌, Bool, true, false, List, [], ◌∷◌, ◌++◌}
use Rattle.std.proofs.Common.{Ok, refl, arith, append-nil, length, length-append, length-drop, take, drop, get_or}
use Rattle.std.proofs.lemmas.List.{take_all}
use Rattle.std.proofs.lemmas.Bool.{ne_eqb}
use Rattle.std.specs.Prelude.{◌≢◌}
use Rattle.image_files.specs.declared.packings.PackErrorKind.{PackErrorKind}
use Rattle.image_files.specs.declared.packings.PackErrorKind.TheVariants.{CutShort, ExtraBits}
use Rattle.image_files.specs.Unpacks.{with_words}
use Rattle.image_files.specs.Packings.{Words, with_word, word_or, word_then, wrong_at, five_bytes, second_word}
use Rattle.image_files.specs.Packings.{core_words, ascii_words, simh_words, dense_words}
use Rattle.image_files.specs.declared.word_forms.WordForm.TheVariants.{CoreDump, AnsiAscii, Simh}
use Rattle.image_files.specs.WordForms.{fits_in, value_in}

-- ---- words before others

with_words_push : (ws : List ℕ) (w : ℕ) (r : Words) → with_words (ws ++ w ∷ []) r ≡ with_words ws (with_word w r)
with_words_push [] w r = refl
with_words_push (v ∷ ws) w r = ap (with_word v) (with_words_push ws w r)

with_words_ok : (ws vs : List ℕ) → with_words ws (Ok vs) ≡ Ok (ws ++ vs)
with_words_ok [] vs = refl
with_words_ok (w ∷ ws) vs = ap (with_word w) (with_words_ok ws vs)

with_words_wrong : (ws : List ℕ) (n : ℕ) (kind : PackErrorKind) → with_words ws (wrong_at n kind) ≡ wrong_at n kind
with_words_wrong [] n kind = refl
with_words_wrong (w ∷ ws) n kind = ap (with_word w) (with_words_wrong ws n kind)

true_then : (kind : PackErrorKind) (t : Bool) (number w : ℕ) (r : Words) → t ≡ true → word_or kind number t w r ≡ with_word w r
true_then kind true number w r h = refl
true_then kind false number w r h = absurd (cc)

false_then : (kind : PackErrorKind) (t : Bool) (number w : ℕ) (r : Words) → t ≡ false → word_or kind number t w r ≡ wrong_at number kind
false_then kind false number w r h = refl
false_then kind true number w r h = absurd (cc)

-- ---- a packing whose words have so many bytes each

-- the word at the front: whether its bytes fit the packing, what is wrong with them if not, and its value
pub record ReadsEach (kind : PackErrorKind) (read : ℕ → List ℕ → Words) (size : ℕ) (fits : List ℕ → Bool) (value : List ℕ → ℕ) : Type 0 where
  pub none : (n : ℕ) → read n [] ≡ Ok []
  pub cut : (n : ℕ) (bs : List ℕ) → 0 < length bs → length bs < size → read n bs ≡ wrong_at n CutShort
  pub first : (n : ℕ) (bs : List ℕ) → size ≤ length bs → read n bs ≡ word_or kind n (fits bs) (value bs) (read (n + 1) (drop size bs))

pub stepped : (kind : PackErrorKind) (read : ℕ → List ℕ → Words) (size : ℕ) (fits : List ℕ → Bool) (value : List ℕ → ℕ) → ReadsEach kind read size fits value
    → (ws vs rest : List ℕ) (n m k v : ℕ) (all : Words) → vs ≡ ws ++ v ∷ [] → v ≡ value rest → fits rest ≡ true
    → n ≡ length ws + 1 → m ≡ length vs + 1 → size ≤ length rest → k ≡ length rest - size
    → with_words ws (read n rest) ≡ all
    → with_words vs (read m (take k (drop size rest))) ≡ all
stepped kind read size fits value each ws vs rest n m k v all is same fit number more l left h =
    let next : m ≡ n + 1 = omega (arith, ap length is, length-append ws (v ∷ [])) in
    let behind = drop size rest in
    ap (λ b. with_words vs (read m b)) (take_all k behind (omega (arith, length-drop size rest)))
    ∙ (ap (λ i. with_words vs (read i behind)) next
    ∙ (ap (λ l. with_words l (read (n + 1) behind)) is
    ∙ (with_words_push ws v (read (n + 1) behind)
    ∙ (ap (λ w. with_words ws (with_word w (read (n + 1) behind))) same
    ∙ (ap (with_words ws) (sym (true_then kind (fits rest) n (value rest) (read (n + 1) behind) fit))
    ∙ (ap (with_words ws) (sym (each.first n rest l)) ∙ h))))))

pub ended : (kind : PackErrorKind) (read : ℕ → List ℕ → Words) (size : ℕ) (fits : List ℕ → Bool) (value : List ℕ → ℕ) → ReadsEach kind read size fits value
    → (ws rest : List ℕ) (n : ℕ) (all : Words) → length rest ≡ 0 → with_words ws (read n rest) ≡ all → all ≡ Ok ws
ended kind read size fits value each ws [] n all e h =
    sym h ∙ (ap (with_words ws) (each.none n) ∙ (with_words_ok ws [] ∙ ap (λ l. Ok l) (append-nil ws)))
ended kind read size fits value each ws (b ∷ rest) n all e h = absurd (omega arith)

pub short : (kind : PackErrorKind) (read : ℕ → List ℕ → Words) (size : ℕ) (fits : List ℕ → Bool) (value : List ℕ → ℕ) → ReadsEach kind read size fits value
    → (ws rest : List ℕ) (n : ℕ) (all : Words) → with_words ws (read n rest) ≡ all → 0 < length rest → length rest < size
    → all ≡ wrong_at n CutShort
short kind read size fits value each ws rest n all h some few =
    sym h ∙ (ap (with_words ws) (each.cut n rest some few) ∙ with_words_wrong ws n CutShort)

pub extra : (kind : PackErrorKind) (read : ℕ → List ℕ → Words) (size : ℕ) (fits : List ℕ → Bool) (value : List ℕ → ℕ) → ReadsEach kind read size fits value
    → (ws rest : List ℕ) (n : ℕ) (all : Words) → with_words ws (read n rest) ≡ all → size ≤ length rest → fits rest ≡ false
    → all ≡ wrong_at n kind
extra kind read size fits value each ws rest n all h l wrong =
    sym h ∙ (ap (with_words ws) (each.first n rest l ∙ false_then kind (fits rest) n (value rest) (read (n + 1) (drop size rest)) wrong)
    ∙ with_words_wrong ws n kind)

-- ---- core dump

core_cut : (n : ℕ) (bs : List ℕ) → 0 < length bs → length bs < 5 → core_words n bs ≡ wrong_at n CutShort
unfolding core_words
core_cut n [] h k = absurd (omega arith)
core_cut n (a ∷ []) h k = refl
core_cut n (a ∷ b ∷ []) h k = refl
core_cut n (a ∷ b ∷ c ∷ []) h k = refl
core_cut n (a ∷ b ∷ c ∷ d ∷ []) h k = refl
core_cut n (a ∷ b ∷ c ∷ d ∷ e ∷ more) h k = absurd (omega arith)

core_first : (n : ℕ) (bs : List ℕ) → 5 ≤ length bs → core_words n bs ≡ word_then n (fits_in CoreDump bs) (value_in CoreDump bs) (core_words (n + 1) (drop 5 bs))
unfolding core_words
core_first n [] h = absurd (omega arith)
core_first n (a ∷ []) h = absurd (omega arith)
core_first n (a ∷ b ∷ []) h = absurd (omega arith)
core_first n (a ∷ b ∷ c ∷ []) h = absurd (omega arith)
core_first n (a ∷ b ∷ c ∷ d ∷ []) h = absurd (omega arith)
core_first n (a ∷ b ∷ c ∷ d ∷ e ∷ more) h = refl

core_none : (n : ℕ) → core_words n [] ≡ Ok []
unfolding core_words
core_none n = refl

pub core_each : ReadsEach ExtraBits core_words 5 (fits_in CoreDump) (value_in CoreDump)
core_each = record { none = core_none; cut = core_cut; first = core_first }

-- ---- ANSI-ASCII

ascii_cut : (n : ℕ) (bs : List ℕ) → 0 < length bs → length bs < 5 → ascii_words n bs ≡ wrong_at n CutShort
unfolding ascii_words
ascii_cut n [] h k = absurd (omega arith)
ascii_cut n (a ∷ []) h k = refl
ascii_cut n (a ∷ b ∷ []) h k = refl
ascii_cut n (a ∷ b ∷ c ∷ []) h k = refl
ascii_cut n (a ∷ b ∷ c ∷ d ∷ []) h k = refl
ascii_cut n (a ∷ b ∷ c ∷ d ∷ e ∷ more) h k = absurd (omega arith)

ascii_first : (n : ℕ) (bs : List ℕ) → 5 ≤ length bs → ascii_words n bs ≡ word_then n (fits_in AnsiAscii bs) (value_in AnsiAscii bs) (ascii_words (n + 1) (drop 5 bs))
unfolding ascii_words
ascii_first n [] h = absurd (omega arith)
ascii_first n (a ∷ []) h = absurd (omega arith)
ascii_first n (a ∷ b ∷ []) h = absurd (omega arith)
ascii_first n (a ∷ b ∷ c ∷ []) h = absurd (omega arith)
ascii_first n (a ∷ b ∷ c ∷ d ∷ []) h = absurd (omega arith)
ascii_first n (a ∷ b ∷ c ∷ d ∷ e ∷ more) h = refl

ascii_none : (n : ℕ) → ascii_words n [] ≡ Ok []
unfolding ascii_words
ascii_none n = refl

pub ascii_each : ReadsEach ExtraBits ascii_words 5 (fits_in AnsiAscii) (value_in AnsiAscii)
ascii_each = record { none = ascii_none; cut = ascii_cut; first = ascii_first }

-- ---- SIMH

simh_cut : (n : ℕ) (bs : List ℕ) → 0 < length bs → length bs < 8 → simh_words n bs ≡ wrong_at n CutShort
unfolding simh_words
simh_cut n [] h k = absurd (omega arith)
simh_cut n (a ∷ []) h k = refl
simh_cut n (a ∷ b ∷ []) h k = refl
simh_cut n (a ∷ b ∷ c ∷ []) h k = refl
simh_cut n (a ∷ b ∷ c ∷ d ∷ []) h k = refl
simh_cut n (a ∷ b ∷ c ∷ d ∷ e ∷ []) h k = refl
simh_cut n (a ∷ b ∷ c ∷ d ∷ e ∷ f ∷ []) h k = refl
simh_cut n (a ∷ b ∷ c ∷ d ∷ e ∷ f ∷ g ∷ []) h k = refl
simh_cut n (a ∷ b ∷ c ∷ d ∷ e ∷ f ∷ g ∷ i ∷ more) h k = absurd (omega arith)

simh_first : (n : ℕ) (bs : List ℕ) → 8 ≤ length bs → simh_words n bs ≡ word_then n (fits_in Simh bs) (value_in Simh bs) (simh_words (n + 1) (drop 8 bs))
unfolding simh_words
simh_first n [] h = absurd (omega arith)
simh_first n (a ∷ []) h = absurd (omega arith)
simh_first n (a ∷ b ∷ []) h = absurd (omega arith)
simh_first n (a ∷ b ∷ c ∷ []) h = absurd (omega arith)
simh_first n (a ∷ b ∷ c ∷ d ∷ []) h = absurd (omega arith)
simh_first n (a ∷ b ∷ c ∷ d ∷ e ∷ []) h = absurd (omega arith)
simh_first n (a ∷ b ∷ c ∷ d ∷ e ∷ f ∷ []) h = absurd (omega arith)
simh_first n (a ∷ b ∷ c ∷ d ∷ e ∷ f ∷ g ∷ []) h = absurd (omega arith)
simh_first n (a ∷ b ∷ c ∷ d ∷ e ∷ f ∷ g ∷ i ∷ more) h = refl

simh_none : (n : ℕ) → simh_words n [] ≡ Ok []
unfolding simh_words
simh_none n = refl

pub simh_each : ReadsEach ExtraBits simh_words 8 (fits_in Simh) (value_in Simh)
simh_each = record { none = simh_none; cut = simh_cut; first = simh_first }

-- ---- high density

abbrev pub dense_one : List ℕ → ℕ
dense_one bs = five_bytes (get_or bs 0 0) (get_or bs 1 0) (get_or bs 2 0) (get_or bs 3 0) (get_or bs 4 0 / 16)

abbrev pub dense_two : List ℕ → ℕ
dense_two bs = second_word (get_or bs 4 0) (get_or bs 5 0) (get_or bs 6 0) (get_or bs 7 0) (get_or bs 8 0)

dense_first : (n : ℕ) (bs : List ℕ) → 9 ≤ length bs
    → dense_words n bs ≡ with_word (dense_one bs) (with_word (dense_two bs) (dense_words (n + 2) (drop 9 bs)))
unfolding dense_words
dense_first n [] h = absurd (omega arith)
dense_first n (a ∷ []) h = absurd (omega arith)
dense_first n (a ∷ b ∷ []) h = absurd (omega arith)
dense_first n (a ∷ b ∷ c ∷ []) h = absurd (omega arith)
dense_first n (a ∷ b ∷ c ∷ d ∷ []) h = absurd (omega arith)
dense_first n (a ∷ b ∷ c ∷ d ∷ e ∷ []) h = absurd (omega arith)
dense_first n (a ∷ b ∷ c ∷ d ∷ e ∷ f ∷ []) h = absurd (omega arith)
dense_first n (a ∷ b ∷ c ∷ d ∷ e ∷ f ∷ g ∷ []) h = absurd (omega arith)
dense_first n (a ∷ b ∷ c ∷ d ∷ e ∷ f ∷ g ∷ i ∷ []) h = absurd (omega arith)
dense_first n (a ∷ b ∷ c ∷ d ∷ e ∷ f ∷ g ∷ i ∷ j ∷ more) h = refl

pub dense_stepped : (ws vs us rest : List ℕ) (n m k v w : ℕ) (all : Words) → vs ≡ ws ++ v ∷ [] → us ≡ vs ++ w ∷ []
    → v ≡ dense_one rest → w ≡ dense_two rest
    → n ≡ length ws + 1 → m ≡ length us + 1 → 9 ≤ length rest → k ≡ length rest - 9
    → with_words ws (dense_words n rest) ≡ all → with_words us (dense_words m (take k (drop 9 rest))) ≡ all
dense_stepped ws vs us rest n m k v w all is js same other number more l left h =
    let next : m ≡ n + 2 = omega (arith, ap length is, length-append ws (v ∷ []), ap length js, length-append vs (w ∷ [])) in
    let behind = drop 9 rest in
    let later = dense_words (n + 2) behind in
    ap (λ b. with_words us (dense_words m b)) (take_all k behind (omega (arith, length-drop 9 rest)))
    ∙ (ap (λ i. with_words us (dense_words i behind)) next
    ∙ (ap (λ l. with_words l later) js
    ∙ (with_words_push vs w later
    ∙ (ap (λ l. with_words l (with_word w later)) is
    ∙ (with_words_push ws v (with_word w later)
    ∙ (ap (λ x. with_words ws (with_word x (with_word w later))) same
    ∙ (ap (λ x. with_words ws (with_word (dense_one rest) (with_word x later))) other
    ∙ (ap (with_words ws) (sym (dense_first n rest l)) ∙ h))))))))

-- ---- the end of high density, at fewer than nine bytes

pub dense_none : (ws rest : List ℕ) (n : ℕ) → length rest ≡ 0 → with_words ws (dense_words n rest) ≡ Ok ws
unfolding dense_words
dense_none ws [] n h = with_words_ok ws [] ∙ ap (λ l. Ok l) (append-nil ws)
dense_none ws (a ∷ rest) n h = absurd (omega arith)

cut_first : (n : ℕ) (rest : List ℕ) → 0 < length rest → length rest < 5 → dense_words n rest ≡ wrong_at n CutShort
unfolding dense_words
cut_first n [] h k = absurd (omega arith)
cut_first n (a ∷ []) h k = refl
cut_first n (a ∷ b ∷ []) h k = refl
cut_first n (a ∷ b ∷ c ∷ []) h k = refl
cut_first n (a ∷ b ∷ c ∷ d ∷ []) h k = refl
cut_first n (a ∷ b ∷ c ∷ d ∷ e ∷ more) h k = absurd (omega arith)

pub dense_cut_first : (ws rest : List ℕ) (n : ℕ) → 0 < length rest → length rest < 5 → with_words ws (dense_words n rest) ≡ wrong_at n CutShort
dense_cut_first ws rest n h k = ap (with_words ws) (cut_first n rest h k) ∙ with_words_wrong ws n CutShort

cut_second : (n : ℕ) (rest : List ℕ) → 5 < length rest → length rest < 9 → dense_words n rest ≡ wrong_at (n + 1) CutShort
unfolding dense_words
cut_second n [] h k = absurd (omega arith)
cut_second n (a ∷ []) h k = absurd (omega arith)
cut_second n (a ∷ b ∷ []) h k = absurd (omega arith)
cut_second n (a ∷ b ∷ c ∷ []) h k = absurd (omega arith)
cut_second n (a ∷ b ∷ c ∷ d ∷ []) h k = absurd (omega arith)
cut_second n (a ∷ b ∷ c ∷ d ∷ e ∷ []) h k = absurd (omega arith)
cut_second n (a ∷ b ∷ c ∷ d ∷ e ∷ f ∷ []) h k = refl
cut_second n (a ∷ b ∷ c ∷ d ∷ e ∷ f ∷ g ∷ []) h k = refl
cut_second n (a ∷ b ∷ c ∷ d ∷ e ∷ f ∷ g ∷ i ∷ []) h k = refl
cut_second n (a ∷ b ∷ c ∷ d ∷ e ∷ f ∷ g ∷ i ∷ j ∷ more) h k = absurd (omega arith)

pub dense_cut_second : (ws rest : List ℕ) (n : ℕ) → 5 < length rest → length rest < 9 → with_words ws (dense_words n rest) ≡ wrong_at (n + 1) CutShort
dense_cut_second ws rest n h k = ap (with_words ws) (cut_second n rest h k) ∙ with_words_wrong ws (n + 1) CutShort

last_word : (n : ℕ) (rest : List ℕ) → length rest ≡ 5 → dense_words n rest ≡ word_then n (get_or rest 4 0 % 16 == 0) (dense_one rest) (Ok [])
unfolding dense_words
last_word n [] h = absurd (omega arith)
last_word n (a ∷ []) h = absurd (omega arith)
last_word n (a ∷ b ∷ []) h = absurd (omega arith)
last_word n (a ∷ b ∷ c ∷ []) h = absurd (omega arith)
last_word n (a ∷ b ∷ c ∷ d ∷ []) h = absurd (omega arith)
last_word n (a ∷ b ∷ c ∷ d ∷ e ∷ []) h = refl
last_word n (a ∷ b ∷ c ∷ d ∷ e ∷ f ∷ more) h = absurd (omega arith)

pub dense_last : (ws vs rest : List ℕ) (n w : ℕ) → vs ≡ ws ++ w ∷ [] → w ≡ dense_one rest → length rest ≡ 5 → get_or rest 4 0 % 16 ≡ 0
    → with_words ws (dense_words n rest) ≡ Ok vs
dense_last ws vs rest n w is same five zeros =
    ap (with_words ws)
    (last_word n rest five ∙ true_then ExtraBits (get_or rest 4 0 % 16 == 0) n (dense_one rest) (Ok []) (ap (λ r. r == 0) zeros))
    ∙ (with_words_ok ws (dense_one rest ∷ []) ∙ ap (λ l. Ok l) (ap (λ v. ws ++ v ∷ []) (sym same) ∙ sym is))

pub dense_extra : (ws rest : List ℕ) (n : ℕ) → length rest ≡ 5 → get_or rest 4 0 % 16 ≢ 0 → with_words ws (dense_words n rest) ≡ wrong_at n ExtraBits
dense_extra ws rest n five some =
    ap (with_words ws)
    (last_word n rest five ∙ false_then ExtraBits (get_or rest 4 0 % 16 == 0) n (dense_one rest) (Ok []) (ne_eqb (get_or rest 4 0 % 16) 0 some))
    ∙ with_words_wrong ws n ExtraBits
