use Rattle.ka_word.proofs.PointerLaws.{onward_law, within_law}
use Rattle.ka_word.proofs.laws.pointer_laws.Goals as goal

pub returns-clause-within : goal.returns-clause-within
returns-clause-within c = within_law

pub returns-clause-onward : goal.returns-clause-onward
returns-clause-onward c = onward_law
