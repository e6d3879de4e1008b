use Rattle.std.proofs.Common.{◌++◌, List, ℕ, drop}
use Rattle.ten.specs.Reports.{AddsSome, AreCircles}
use Rattle.ten.proofs.notes.report_circles.Given as goal

-- the lines so far, with those of the facts that are left after them, are those of all
abbrev pub invariant-loop-fact : goal.invariant-loop-fact
invariant-loop-fact l =
    AddsSome l.initial.errors l.errors
    (λ text. (rest : List ℕ) → AreCircles l.tick l.machine.world.requests (drop l.fact-index l.facts) rest
    → AreCircles l.tick l.machine.world.requests l.facts (text ++ rest))
