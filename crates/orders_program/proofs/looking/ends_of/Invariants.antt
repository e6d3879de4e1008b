use Rattle.std.proofs.Common.{◌≡◌, ◌++◌, drop, map}
use Rattle.orders_program.specs.Telling.{facts_of, facts_told}
use Rattle.orders_program.proofs.looking.ends_of.Given as goal

-- the ends so far and those to come are all
abbrev pub invariant-loop-end : goal.invariant-loop-end
invariant-loop-end l = map facts_told l.ends.items ++ map facts_of (drop l.end-index l.found) ≡ map facts_of l.found
