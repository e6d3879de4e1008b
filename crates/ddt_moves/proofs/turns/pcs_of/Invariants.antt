use Rattle.std.proofs.Common.{◌≡◌, ◌<◌, ℕ, None, slice_index_or}
use Rattle.machine.specs.Between.{pc_in}
use Rattle.ddt_moves.proofs.turns.pcs_of.Given as goal

abbrev pub invariant-loop-number : goal.invariant-loop-number
invariant-loop-number l = (k : ℕ) → k < l.number → slice_index_or l.pcs k None ≡ pc_in l.machine k
