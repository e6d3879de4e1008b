use Rattle.ka_word.proofs.RotationLaws.{pair_law, word_law}
use Rattle.ka_word.proofs.laws.rotation_laws.Goals as goal

pub returns-clause-word : goal.returns-clause-word
returns-clause-word c = word_law

pub returns-clause-pair : goal.returns-clause-pair
returns-clause-pair c = pair_law
