-- What is found among requests, from a place on.
use Rattle.std.proofs.Common.{◌≡◌, ◌+◌, ◌||◌, ◌∙◌, ap, sym, ℕ, Bool, true, false, List, [], ◌∷◌, drop, length, Some, slice_get, unwrap_or, arith}
use Rattle.std.proofs.lemmas.List.{drop_more}
use Rattle.std.proofs.lemmas.Option.{slice_get_within, unwrap_or-slice_get}
use Rattle.std.proofs.lemmas.Grind.{common_steps}
use Rattle.std.specs.List.{list_any}

-- the rest from a place on begins with what is there
drop-at : {X : Type 0} (xs : List X) (i : ℕ) (x : X) → slice_get xs i ≡ Some x → drop i xs ≡ x ∷ drop (i + 1) xs
drop-at xs i x h =
    drop_more xs i x (slice_get_within xs i x h)
    ∙ ap (λ y. y ∷ drop (i + 1) xs) (sym (unwrap_or-slice_get xs i x) ∙ ap (λ o. unwrap_or o x) h)

pub found-here : {X : Type 0} (p : X → Bool) (xs : List X) (i : ℕ) (x : X) → slice_get xs i ≡ Some x → p x ≡ true
    → list_any p (drop i xs) ≡ list_any p xs → true ≡ list_any p xs
found-here p xs i x at is before =
    sym (ap (λ b. b || list_any p (drop (i + 1) xs)) is) ∙ sym (ap (list_any p) (drop-at xs i x at)) ∙ before

pub found-later : {X : Type 0} (p : X → Bool) (xs : List X) (i : ℕ) (x : X) → slice_get xs i ≡ Some x → p x ≡ false
    → list_any p (drop i xs) ≡ list_any p xs → list_any p (drop (i + 1) xs) ≡ list_any p xs
found-later p xs i x at is before =
    sym (ap (λ b. b || list_any p (drop (i + 1) xs)) is) ∙ sym (ap (list_any p) (drop-at xs i x at)) ∙ before

pub found-none : {X : Type 0} (p : X → Bool) (xs : List X) (i : ℕ) → length xs ≡ i → list_any p (drop i xs) ≡ list_any p xs → false ≡ list_any p xs
found-none p xs i end before = sym (ap (list_any p) (drop-all xs i end)) ∙ before
  where
    drop-all : {X : Type 0} (xs : List X) (i : ℕ) → length xs ≡ i → drop i xs ≡ []
    drop-all xs i end = grind (arith, common_steps, end)
