use Rattle.std.proofs.Common.{◌≡◌, ℕ, List, drop}
use Rattle.mac_layout.specs.Faults.{least}
use Rattle.mac_layout.specs.Layouts.{AreMarks}
use Rattle.mac_layout.proofs.LayoutLemmas.{all_apart}
use Rattle.mac_layout.proofs.layout.literals_code.Given as goal

-- the least code so far and those to come give the least of all
abbrev pub invariant-loop-size : goal.invariant-loop-size
invariant-loop-size l =
    (past : List ℕ) → AreMarks l.taken past
    → least l.code (all_apart past l.at (drop l.size-index l.sizes)) ≡ all_apart past l.address l.sizes
