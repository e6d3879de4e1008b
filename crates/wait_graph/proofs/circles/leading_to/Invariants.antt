use Rattle.std.proofs.Common.{◌≡◌, ◌<◌, ℕ, false, slice_index_or}
use Rattle.lock_queue.specs.Waits.{leads_to}
use Rattle.wait_graph.specs.Pairs.{pair_in}
use Rattle.wait_graph.specs.declared.pairs.TheConstants.{NUMBERS}
use Rattle.wait_graph.proofs.circles.leading_to.Given as goal

abbrev pub invariant-loop-steps : goal.invariant-loop-steps
invariant-loop-steps l = (j : ℕ) → j < NUMBERS → slice_index_or l.reached j false ≡ leads_to (pair_in l.pairs) l.steps j l.target
