use Rattle.ka_isa.specs.Operations.{calls}
use Rattle.run_notes.specs.Instructions.{call_name}
use Rattle.run_notes.proofs.instructions.call_name.Goals as goal

pub returns : goal.returns
unfolding call_name calls
returns c = c.name_in.ensures
