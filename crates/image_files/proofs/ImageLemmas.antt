-- Tests of an image, and an image without its words of 0.
use Rattle.std.proofs.Common.{◌≡◌, ◌∙◌, sym, ap, subst, ℕ, ◌+◌, ◌^◌, ◌<◌, ◌≤◌, ◌==◌, Bool, true, false, not, nat_lt, List, [], ◌∷◌}
use Rattle.std.proofs.Common.{◌++◌, length, refl, arith, if◌then◌else◌, cond, append-nil, take, drop, get_or}
use Rattle.std.proofs.lemmas.List.{drop_more, drop_all, take_all}
use Rattle.std.proofs.lemmas.List.Elements.{filter_more}
use Rattle.std.proofs.lemmas.Bool.{ne_eqb, eqb-true, lt-ltb, ltb-true}
use Rattle.std.specs.Prelude.{filter, ◌≢◌, ◌↔◌}
use Rattle.image_files.specs.Images.{IsImage, Rises, is_not_zero, word_at}

-- ---- a test that goes through the words

-- the words rise where those from here on do
abbrev pub SameRise : ℕ → List (ℕ × ℕ) → List (ℕ × ℕ) → Type 0
SameRise least rest all = (Rises 0 all → Rises least rest) × (Rises least rest → Rises 0 all)

next_word : (xs : List (ℕ × ℕ)) (i : ℕ) (x : ℕ × ℕ) → i < length xs → x ≡ get_or xs i x → drop i xs ≡ x ∷ drop (i + 1) xs
next_word xs i x h e = drop_more xs i x h ∙ ap (λ y. y ∷ drop (i + 1) xs) (sym e)

risen : (all : List (ℕ × ℕ)) (least i : ℕ) (x : ℕ × ℕ) → i < length all → x ≡ get_or all i x → SameRise least (drop i all) all → Rises 0 all
    → Rises least (x ∷ drop (i + 1) all)
risen all least i x h e same r = subst (λ (l : List (ℕ × ℕ)). Rises least l) (next_word all i x h e) (same.0 r)

pub rise_step : (all : List (ℕ × ℕ)) (least i : ℕ) (x : ℕ × ℕ) → i < length all → x ≡ get_or all i x → least ≤ x.0 → x.0 < 2 ^ 18
    → SameRise least (drop i all) all → SameRise (x.0 + 1) (drop (i + 1) all) all
rise_step all least i x h e low high same = (
  λ r. (risen all least i x h e same r).2,
  λ r. let front : Rises least (x ∷ drop (i + 1) all) = (low, high, r) in
      same.1 (subst (λ (l : List (ℕ × ℕ)). Rises least l) (sym (next_word all i x h e)) front),
)

pub rise_low : (all : List (ℕ × ℕ)) (least i : ℕ) (x : ℕ × ℕ) → i < length all → x ≡ get_or all i x → x.0 < least
    → SameRise least (drop i all) all → (false ≡ true) ↔ Rises 0 all
rise_low all least i x h e low same = (
  λ h. absurd (cc),
  λ r. let front : least ≤ x.0 = (risen all least i x h e same r).0 in absurd (omega arith),
)

pub rise_high : (all : List (ℕ × ℕ)) (least i : ℕ) (x : ℕ × ℕ) → i < length all → x ≡ get_or all i x → 2 ^ 18 ≤ x.0
    → SameRise least (drop i all) all → (false ≡ true) ↔ Rises 0 all
rise_high all least i x h e high same = (
  λ h. absurd (cc),
  λ r. let front : x.0 < 2 ^ 18 = (risen all least i x h e same r).1 in absurd (omega arith),
)

pub rise_end : (all : List (ℕ × ℕ)) (least i : ℕ) → length all ≤ i → SameRise least (drop i all) all → (true ≡ true) ↔ Rises 0 all
rise_end all least i short same = (λ h. same.1 (subst (λ (l : List (ℕ × ℕ)). Rises least l) (sym (drop_all i all short)) tt), λ r. refl)

pub image_falls : (rising : Bool) (listed words : List (ℕ × ℕ)) (start : ℕ) → (rising ≡ true) ↔ Rises 0 listed → listed ≡ words → rising ≡ false
    → (false ≡ true) ↔ IsImage words start
image_falls rising listed words start rises e falls = (
  λ h. absurd (cc),
  λ is. let holds : rising ≡ true = rises.1 (subst (λ (l : List (ℕ × ℕ)). Rises 0 l) (sym e) is.rises) in absurd (cc),
)

pub image_if : (rising low : Bool) (listed words : List (ℕ × ℕ)) (start : ℕ) → (rising ≡ true) ↔ Rises 0 listed → listed ≡ words → rising ≡ true
    → low ≡ nat_lt start (2 ^ 18) → (low ≡ true) ↔ IsImage words start
image_if rising low listed words start rises e holds is_low = (
  λ h. record {
    rises = subst (λ (l : List (ℕ × ℕ)). Rises 0 l) e (rises.0 holds);
    start_fits = ltb-true start (2 ^ 18) (sym is_low ∙ h);
  },
  λ is. is_low ∙ lt-ltb start (2 ^ 18) is.start_fits,
)

-- ---- without words of 0

pub rises_lower : (low high : ℕ) (xs : List (ℕ × ℕ)) → low ≤ high → Rises high xs → Rises low xs
rises_lower low high [] h r = tt
rises_lower low high (x ∷ xs) h r =
    let above : high ≤ x.0 = r.0 in
    (omega arith, r.1, r.2)

kept_rises : (least : ℕ) (xs : List (ℕ × ℕ)) → Rises least xs → Rises least (filter is_not_zero xs)
kept_rises least [] r = tt
kept_rises least (x ∷ xs) r =
    elim (is_not_zero x) as (λ b. Rises least (if b then x ∷ filter is_not_zero xs else filter is_not_zero xs)) [
      | true ↦ (r.0, r.1, kept_rises (x.0 + 1) xs r.2)
      | false ↦ rises_lower least (x.0 + 1) (filter is_not_zero xs) (let low : least ≤ x.0 = r.0 in omega arith) (kept_rises (x.0 + 1) xs r.2)
    ]

-- one word more, of which the words that are not 0 are kept
pub kept_less : (xs : List (ℕ × ℕ)) (i : ℕ) (x : ℕ × ℕ) (out : List (ℕ × ℕ)) → i < length xs → x ≡ get_or xs i x → x.1 ≡ 0
    → out ≡ filter is_not_zero (take i xs) → out ≡ filter is_not_zero (take (i + 1) xs)
kept_less xs i x out h e zero_word is =
    let test : is_not_zero x ≡ false = ap (λ w. not (w == 0)) zero_word in
    let one : cond (is_not_zero x) (x ∷ []) [] ≡ [] = ap (λ t. cond t (x ∷ []) []) test in
    is ∙ (sym (append-nil (filter is_not_zero (take i xs)))
    ∙ (ap (λ l. filter is_not_zero (take i xs) ++ l) (sym one)
    ∙ (ap (λ (y : ℕ × ℕ). filter is_not_zero (take i xs) ++ cond (is_not_zero y) (y ∷ []) []) e
    ∙ sym (filter_more is_not_zero xs i x h))))

pub kept_more : (xs : List (ℕ × ℕ)) (i : ℕ) (x : ℕ × ℕ) (out new : List (ℕ × ℕ)) → i < length xs → x ≡ get_or xs i x → x.1 ≢ 0
    → new ≡ out ++ x ∷ [] → out ≡ filter is_not_zero (take i xs) → new ≡ filter is_not_zero (take (i + 1) xs)
kept_more xs i x out new h e some push is =
    let test : is_not_zero x ≡ true = ap not (ne_eqb x.1 0 some) in
    let one : cond (is_not_zero x) (x ∷ []) [] ≡ x ∷ [] = ap (λ t. cond t (x ∷ []) []) test in
    push ∙ (ap (λ l. l ++ x ∷ []) is
    ∙ (ap (λ l. filter is_not_zero (take i xs) ++ l) (sym one)
    ∙ (ap (λ (y : ℕ × ℕ). filter is_not_zero (take i xs) ++ cond (is_not_zero y) (y ∷ []) []) e
    ∙ sym (filter_more is_not_zero xs i x h))))

pub kept_all : (xs : List (ℕ × ℕ)) (i : ℕ) (out : List (ℕ × ℕ)) → length xs ≤ i → out ≡ filter is_not_zero (take i xs) → out ≡ filter is_not_zero xs
kept_all xs i out h is = is ∙ ap (filter is_not_zero) (take_all i xs h)

pub kept_is_image : (words kept : List (ℕ × ℕ)) (start begin : ℕ) → kept ≡ filter is_not_zero words → begin ≡ start
    → IsImage words start → IsImage kept begin
kept_is_image words kept start begin e f is =
    subst (λ (n : ℕ). IsImage kept n) (sym f)
    (subst (λ (l : List (ℕ × ℕ)). IsImage l start) (sym e) (record { rises = kept_rises 0 words is.rises; start_fits = is.start_fits }))

-- nothing stands below the first address
nothing_below : (least a : ℕ) (xs : List (ℕ × ℕ)) → Rises least xs → a < least → word_at xs a ≡ 0
nothing_below least a [] r h = refl
nothing_below least a (x ∷ xs) r h =
    let low : least ≤ x.0 = r.0 in
    ap (λ b. if b then x.1 else word_at xs a) (ne_eqb x.0 a (λ e. omega arith)) ∙ nothing_below (x.0 + 1) a xs r.2 (omega arith)

kept_at : (t : Bool) (x : ℕ × ℕ) (xs : List (ℕ × ℕ)) (a : ℕ) → (x.1 == 0) ≡ t → Rises (x.0 + 1) xs
    → word_at (filter is_not_zero xs) a ≡ word_at xs a
    → word_at (if not t then x ∷ filter is_not_zero xs else filter is_not_zero xs) a ≡ word_at (x ∷ xs) a
kept_at false x xs a e r h = ap (λ w. if x.0 == a then x.1 else w) h
kept_at true x xs a e r h =
    elim (x.0 == a) as (λ b. (x.0 == a) ≡ b → word_at (filter is_not_zero xs) a ≡ (if b then x.1 else word_at xs a)) [
      | true ↦ λ same.
          let at : x.0 ≡ a = eqb-true x.0 a same in
          h ∙ (nothing_below (x.0 + 1) a xs r (omega arith) ∙ sym (eqb-true x.1 0 e))
      | false ↦ λ other. h
    ] refl

pub kept_contents : (least a : ℕ) (xs : List (ℕ × ℕ)) → Rises least xs → word_at (filter is_not_zero xs) a ≡ word_at xs a
kept_contents least a [] r = refl
kept_contents least a (x ∷ xs) r = kept_at (x.1 == 0) x xs a refl r.2 (kept_contents (x.0 + 1) a xs r.2)

pub same_contents : (words kept : List (ℕ × ℕ)) (start a : ℕ) → kept ≡ filter is_not_zero words → IsImage words start
    → word_at kept a ≡ word_at words a
same_contents words kept start a e is = ap (λ l. word_at l a) e ∙ kept_contents 0 a words is.rises
