use Rattle.script_laws.proofs.ReadBack.{others_read_back, reads_back}
use Rattle.script_laws.proofs.formats.lines_are_read_back.Goals as goal

pub returns-clause-pieces : goal.returns-clause-pieces
returns-clause-pieces c = reads_back

pub returns-clause-others : goal.returns-clause-others
returns-clause-others c = others_read_back
