use Rattle.wait_graph.proofs.PairLemmas.{nothing}
use Rattle.wait_graph.proofs.pairs.pair_table.Goals as goal

pub fill_pairs-requires-clause-empty : goal.fill_pairs-requires-clause-empty
fill_pairs-requires-clause-empty g c = λ i. nothing i
