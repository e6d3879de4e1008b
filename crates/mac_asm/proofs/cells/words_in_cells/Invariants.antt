use Rattle.std.proofs.Common.{◌≡◌, ◌++◌, drop}
use Rattle.mac_asm.specs.Filled.{words_in_cells}
use Rattle.mac_asm.proofs.cells.words_in_cells.Given as goal

-- the words so far and those to come are all
abbrev pub invariant-loop-address : goal.invariant-loop-address
invariant-loop-address l = l.words.items ++ words_in_cells l.address (drop l.address l.cells) ≡ words_in_cells 0 l.cells
