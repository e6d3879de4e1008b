-- Sums over two lists of areas that agree but for one position.
use Rattle.std.proofs.Common.{◌≡◌, ◌≢◌, ℕ, ◌+◌, ◌<◌, ◌∙◌, sym, ap, List, length, map, get_or, arith, inl, inr}
use Rattle.std.specs.Prelude.{slice_set, sum_by}
use Rattle.std.proofs.lemmas.Bool.{cases_eq}
use Rattle.std.proofs.lemmas.List.{ext_get_or, get_or-map, length-map, length-set, get_or-set_same, get_or-set_other}
use Rattle.std.proofs.lemmas.List.Sums.{sum-map, sum_by-set}
use Rattle.core_store.specs.declared.areas.Area.{Area}
use Rattle.core_store.specs.Layout.{area_of, no_area}

at-map : (f : Area → ℕ) (areas : List Area) (k : ℕ) → k < length areas → get_or (map f areas) k 0 ≡ f (area_of areas k)
at-map f areas k h = get_or-map f areas k no_area 0 h

-- they agree at every position
pub sum-same : (f g : Area → ℕ) (xs ys : List Area) → length ys ≡ length xs → ((k : ℕ) → k < length xs → g (area_of ys k) ≡ f (area_of xs k))
    → sum_by g ys ≡ sum_by f xs
sum-same f g xs ys e same =
    let lx : length (map f xs) ≡ length xs = length-map xs f in
    let ly : length (map g ys) ≡ length ys = length-map ys g in
    let all : map g ys ≡ map f xs =
    ext_get_or 0 _ _ (ly ∙ e ∙ sym lx) (λ k h.
    let m : k < length ys = omega arith in
    let n : k < length xs = omega arith in
    at-map g ys k m ∙ same k n ∙ sym (at-map f xs k n)) in
    sym (sum-map g ys) ∙ ap (λ ns. sum_by (λ n. n) ns) all ∙ sum-map f xs

-- they agree at every position but one
pub sum-changed : (f g : Area → ℕ) (xs ys : List Area) (j : ℕ) → length ys ≡ length xs → j < length xs
    → ((k : ℕ) → k < length xs → k ≢ j → g (area_of ys k) ≡ f (area_of xs k))
    → sum_by g ys + f (area_of xs j) ≡ sum_by f xs + g (area_of ys j)
sum-changed f g xs ys j e there same =
    let lx : length (map f xs) ≡ length xs = length-map xs f in
    let ly : length (map g ys) ≡ length ys = length-map ys g in
    let new : ℕ = g (area_of ys j) in
    let jx : j < length (map f xs) = omega arith in
    let jy : j < length ys = omega arith in
    let all : map g ys ≡ slice_set (map f xs) j new =
    ext_get_or 0 _ _ (ly ∙ e ∙ sym lx ∙ sym (length-set (map f xs) j new)) (λ k h.
    let m : k < length ys = omega arith in
    let n : k < length xs = omega arith in
    elim (cases_eq k j) [
      | inl q ↦ rw q (at-map g ys j jy ∙ sym (get_or-set_same (map f xs) j new 0 jx))
      | inr q ↦ at-map g ys k m ∙ same k n q ∙ sym (at-map f xs k n) ∙ sym (get_or-set_other (map f xs) j k new 0 q)
    ]) in
    let total : sum_by g ys ≡ sum_by (λ n. n) (slice_set (map f xs) j new) = sym (sum-map g ys) ∙ ap (λ ns. sum_by (λ n. n) ns) all in
    let put : sum_by (λ n. n) (slice_set (map f xs) j new) + get_or (map f xs) j 0 ≡ sum_by (λ n. n) (map f xs) + new =
    sum_by-set (λ n. n) (map f xs) j new 0 jx in
    let was : get_or (map f xs) j 0 ≡ f (area_of xs j) = at-map f xs j there in
    let before : sum_by (λ n. n) (map f xs) ≡ sum_by f xs = sum-map f xs in
    omega arith
