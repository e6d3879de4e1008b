-- Numbers below a limit, by recursion.
use Rattle.std.proofs.Common.{ℕ, suc, ◌<◌, List, [], ◌∷◌, arith}
use Rattle.std.specs.Prelude.{All}

abbrev pub AreBelow : ℕ → List ℕ → Type 0
AreBelow limit [] = Unit {0}
AreBelow limit (n ∷ ns) = (n < limit) × AreBelow limit ns

pub are_below : (limit : ℕ) (ns : List ℕ) → All (λ n. n < limit) ns → AreBelow limit ns
are_below limit [] all = tt
are_below limit (n ∷ ns) all = (all 0 0 (omega arith), are_below limit ns (λ k d h. all (suc k) d (omega arith)))
