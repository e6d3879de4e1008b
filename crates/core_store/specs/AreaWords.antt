-- The words of areas, word by word.
use Rattle.std.specs.Prelude.{ℕ, ◌≡◌, ◌≢◌, ◌<◌, ◌≤◌, ◌+◌, List, [], length, slice_range, slice_set}
use Rattle.std.proofs.Common.{arith, sym, ◌∙◌, get_or, inl, inr}
use Rattle.std.proofs.lemmas.List.{ext_get_or, get_or-map, length-map, length-set, get_or-set_same, get_or-set_other}
use Rattle.std.proofs.lemmas.Bool.{cases_eq}
use Rattle.std.proofs.lemmas.Grind.{common_steps, same_number_lists}
use Rattle.core_store.specs.declared.areas.Area.{Area}
use Rattle.core_store.specs.Layout.{area_of, area_words, cores_in, no_area}

-- a part of a list of words
pub length-part : (xs : List ℕ) (a n : ℕ) → a + n ≤ length xs → length (slice_range xs a (a + n)) ≡ n
length-part xs a n h = grind (arith, common_steps)

pub part-at : (xs : List ℕ) (a n k : ℕ) → a + n ≤ length xs → k < n → get_or (slice_range xs a (a + n)) k 0 ≡ get_or xs (a + k) 0
part-at xs a n k h l = grind (arith, common_steps)

-- two parts with the same words
pub same-part : (xs ys : List ℕ) (a b n : ℕ) → a + n ≤ length xs → b + n ≤ length ys
    → ((k : ℕ) → k < n → get_or ys (b + k) 0 ≡ get_or xs (a + k) 0)
    → slice_range ys b (b + n) ≡ slice_range xs a (a + n)
same-part xs ys a b n hx hy same =
    let lx : length (slice_range xs a (a + n)) ≡ n = length-part xs a n hx in
    let ly : length (slice_range ys b (b + n)) ≡ n = length-part ys b n hy in
    same_number_lists _ _ (ly ∙ sym lx) (λ k l.
    let m : k < n = omega arith in
    part-at ys b n k hy m ∙ same k m ∙ sym (part-at xs a n k hx m))

-- a part that is these words
pub part-is : (xs ws : List ℕ) (a n : ℕ) → a + n ≤ length xs → length ws ≡ n → ((k : ℕ) → k < n → get_or xs (a + k) 0 ≡ get_or ws k 0)
    → slice_range xs a (a + n) ≡ ws
part-is xs ws a n h e same =
    let l : length (slice_range xs a (a + n)) ≡ n = length-part xs a n h in
    same_number_lists _ _ (l ∙ sym e) (λ k lt.
    let m : k < n = omega arith in
    part-at xs a n k h m ∙ same k m)

-- the words of a job
pub core-at : (words : List ℕ) (areas : List Area) (k : ℕ) → k < length areas
    → get_or (cores_in words areas) k [] ≡ area_words words (area_of areas k)
core-at words areas k h = get_or-map (area_words words) areas k no_area [] h

-- every job has the same words
pub cores-same : (words news : List ℕ) (areas moved : List Area) → length moved ≡ length areas
    → ((k : ℕ) → k < length areas → area_words news (area_of moved k) ≡ area_words words (area_of areas k))
    → cores_in news moved ≡ cores_in words areas
cores-same words news areas moved e same =
    let lm : length (cores_in news moved) ≡ length moved = length-map moved (area_words news) in
    let la : length (cores_in words areas) ≡ length areas = length-map areas (area_words words) in
    ext_get_or [] _ _ (lm ∙ e ∙ sym la) (λ k h.
    let m : k < length moved = omega arith in
    let n : k < length areas = omega arith in
    core-at news moved k m ∙ same k n ∙ sym (core-at words areas k n))

-- one job has new words, and all others have the same
pub cores-set : (words news : List ℕ) (areas moved : List Area) (job : ℕ) (ws : List ℕ) → length moved ≡ length areas → job < length areas
    → ((k : ℕ) → k < length areas → k ≢ job → area_words news (area_of moved k) ≡ area_words words (area_of areas k))
    → area_words news (area_of moved job) ≡ ws
    → cores_in news moved ≡ slice_set (cores_in words areas) job ws
cores-set words news areas moved job ws e there same new =
    let lm : length (cores_in news moved) ≡ length moved = length-map moved (area_words news) in
    let la : length (cores_in words areas) ≡ length areas = length-map areas (area_words words) in
    let jm : job < length moved = omega arith in
    let ja : job < length (cores_in words areas) = omega arith in
    ext_get_or [] _ _ (lm ∙ e ∙ sym la ∙ sym (length-set (cores_in words areas) job ws)) (λ k h.
    let m : k < length moved = omega arith in
    let n : k < length areas = omega arith in
    elim (cases_eq k job) [
      | inl q ↦ rw q (core-at news moved job jm ∙ new ∙ sym (get_or-set_same (cores_in words areas) job ws [] ja))
      | inr q ↦ core-at news moved k m ∙ same k n q ∙ sym (core-at words areas k n)
          ∙ sym (get_or-set_other (cores_in words areas) job k ws [] q)
    ])
