use Rattle.std.proofs.Common.{◌≡◌, ◌++◌, drop}
use Rattle.orders_program.specs.Telling.{data_from}
use Rattle.orders_program.proofs.ends.data_of.Given as goal

-- the words so far and those to come are all
abbrev pub invariant-loop-word : goal.invariant-loop-word
invariant-loop-word l = l.data.items ++ data_from l.number (drop l.word-index l.shared) ≡ data_from 0 l.shared
