use Rattle.ka_word.proofs.ByteLaws.{left_law, loaded_law, right_law, same_law}
use Rattle.ka_word.proofs.laws.byte_laws.Goals as goal

pub returns-clause-loaded : goal.returns-clause-loaded
returns-clause-loaded c = loaded_law

pub returns-clause-right : goal.returns-clause-right
returns-clause-right c = right_law

pub returns-clause-left : goal.returns-clause-left
returns-clause-left c = left_law

pub returns-clause-same : goal.returns-clause-same
returns-clause-same c = same_law
