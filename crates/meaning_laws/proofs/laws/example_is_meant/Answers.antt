use Rattle.meaning_laws.proofs.Example.{example_leaves}
use Rattle.meaning_laws.proofs.laws.example_is_meant.Goals as goal

pub returns : goal.returns
returns c = example_leaves
