-- Lists from which some elements leave, and to whose end others come.
use Rattle.std.specs.Prelude.{◌≡◌, ◌∷◌, ◌++◌, List, []}

-- the second list is what is left of the first: each element of the first stays, as what it has become, or leaves; those that
-- stay keep their order
pub data Thinned {A : Type 0} (Becomes : A → A → Type 0) : List A → List A → Type 0 where
  none : Thinned Becomes [] []
  stays : {x y : A} {xs ys : List A} → Becomes x y → Thinned Becomes xs ys → Thinned Becomes (x ∷ xs) (y ∷ ys)
  leaves : {x : A} {xs ys : List A} → Thinned Becomes xs ys → Thinned Becomes (x ∷ xs) ys

-- first in, first out: what is left of the list stands in front, and what has come since stands after it
pub record Follows {A : Type 0} (Becomes : A → A → Type 0) (before after : List A) : Type 0 where
  pub kept : List A
  pub come : List A
  pub is : after ≡ kept ++ come
  pub thinned : Thinned Becomes before kept
