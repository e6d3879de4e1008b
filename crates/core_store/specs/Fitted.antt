-- A loan's words put back: a lent slice keeps its length, so they fit where the old ones were.
use Rattle.std.specs.Prelude.{ℕ, ◌≡◌, List, length, take, drop, ◌++◌}
use Rattle.std.proofs.Common.{arith}
use Rattle.std.proofs.lemmas.Grind.{common_steps}

-- new words that replace old ones, cut or filled up so that the length stays
abbrev pub fitted : List ℕ → List ℕ → List ℕ
fitted old new = take (length old) (new ++ drop (length new) old)

pub fitted-same : (old new : List ℕ) → length new ≡ length old → fitted old new ≡ new
fitted-same old new same = grind (arith, common_steps)
