-- Values that a test chooses.
use Rattle.std.proofs.Common.{◌≡◌, Bool, true, false, cond, refl}

-- what holds of both values holds of the one that the test chooses
pub by_test : {X : Type 0} (P : X → Type 0) (b : Bool) (x y : X) → (b ≡ true → P x) → (b ≡ false → P y) → P (cond b x y)
by_test P true x y p q = p refl
by_test P false x y p q = q refl
