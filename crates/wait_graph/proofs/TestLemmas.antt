-- Lemmas on tests.
use Rattle.std.proofs.Common.{◌≡◌, ◌&&◌, ◌||◌, Bool, true, false, refl}

pub or_more : (a b c : Bool) → (b ≡ true → c ≡ true) → (a || b) ≡ true → (a || c) ≡ true
or_more true b c more h = refl
or_more false b c more h = more h

pub and_more : (a b c : Bool) → (b ≡ true → c ≡ true) → (a && b) ≡ true → (a && c) ≡ true
and_more true b c more h = more h
and_more false b c more h = h

pub from_or : (a c : Bool) (P : Type 0) → (a ≡ true → P) → (c ≡ true → P) → (a || c) ≡ true → P
from_or true c P here later h = here refl
from_or false c P here later h = later h
