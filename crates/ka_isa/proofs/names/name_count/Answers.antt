use Rattle.std.proofs.Common.{refl}
use Rattle.ka_isa.specs.Operations.{meanings, operations, calls}
use Rattle.ka_isa.proofs.DistinctLemmas.{distinct_meanings}
use Rattle.ka_isa.proofs.names.name_count.Goals as goal

pub returns-clause-count : goal.returns-clause-count
unfolding meanings operations calls
returns-clause-count c = refl

pub returns-clause-distinct : goal.returns-clause-distinct
returns-clause-distinct c = distinct_meanings
