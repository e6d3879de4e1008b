use Rattle.std.proofs.Common.{◌≡◌, ◌++◌, drop, map}
use Rattle.orders_program.specs.Telling.{texts_from}
use Rattle.orders_program.proofs.ends.texts_of.Given as goal

-- the texts so far and those to come are all
abbrev pub invariant-loop-left : goal.invariant-loop-left
invariant-loop-left l = map (λ t. (t.line, t.text.items)) l.texts.items ++ texts_from l.line (drop l.left-index l.jobs) ≡ texts_from 0 l.jobs
