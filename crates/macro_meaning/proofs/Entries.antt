-- A list from one of its members on.
use Rattle.std.proofs.Common.{◌≡◌, ℕ, zero, suc, ◌+◌, ◌≤◌, Bool, true, List, [], ◌∷◌, drop, Option, Some, None, length, arith}
use Rattle.std.specs.Prelude.{◌&&◌, slice_get}
use Rattle.std.specs.List.{list_all}

-- the member at a position, if it is there, and all after it are as they have to be
abbrev pub from_here : {X : Type 0} → (X → Bool) → List X → ℕ → Option X → Bool
from_here p xs i None = true
from_here p xs i (Some x) = p x && list_all p (drop (i + 1) xs)

pub all_from : {X : Type 0} (p : X → Bool) (xs : List X) (i : ℕ) → list_all p (drop i xs) ≡ from_here p xs i (slice_get xs i)
all_from p [] zero = grind arith
all_from p [] (suc i) = grind arith
all_from p (y ∷ ys) zero = grind arith
all_from p (y ∷ ys) (suc i) = let more = all_from p ys i in grind (arith, more)

-- after the last there are none
pub past_end : {X : Type 0} (p : X → Bool) (xs : List X) (i : ℕ) → length xs ≤ i → list_all p (drop i xs) ≡ true
past_end p [] zero le = grind arith
past_end p [] (suc i) le = grind arith
past_end p (y ∷ ys) zero le = grind arith
past_end p (y ∷ ys) (suc i) le = let more = past_end p ys i (omega arith) in grind (arith, more)
