use Rattle.ka_word.proofs.PushdownLaws.{back_law, over_law, address_law}
use Rattle.ka_word.proofs.laws.pushdown_laws.Goals as goal

pub returns-clause-back : goal.returns-clause-back
returns-clause-back c = back_law

pub returns-clause-address : goal.returns-clause-address
returns-clause-address c = address_law

pub returns-clause-over : goal.returns-clause-over
returns-clause-over c = over_law
