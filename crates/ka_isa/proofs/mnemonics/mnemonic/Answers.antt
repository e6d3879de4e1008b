use Rattle.std.proofs.Common.{refl}
use Rattle.ka_isa.specs.Operations.{operations}
use Rattle.ka_isa.specs.Tables.{are_by_code}
use Rattle.ka_isa.proofs.FamilyLemmas.{left_out}
use Rattle.ka_isa.proofs.mnemonics.mnemonic.Goals as goal

pub name_in-requires : goal.name_in-requires
unfolding operations are_by_code
name_in-requires c = refl

pub returns-clause-left_out : goal.returns-clause-left_out
returns-clause-left_out c = left_out c.name_in.result c.args.op c.name_in.ensures.name
