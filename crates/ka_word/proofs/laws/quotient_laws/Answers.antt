use Rattle.ka_word.proofs.QuotientLaws.{divides_law, none_law, quotient_law, remainder_law, sign_law, smaller_law}
use Rattle.ka_word.proofs.laws.quotient_laws.Goals as goal

pub returns-clause-none : goal.returns-clause-none
returns-clause-none c = none_law

pub returns-clause-quotient : goal.returns-clause-quotient
returns-clause-quotient c = quotient_law

pub returns-clause-remainder : goal.returns-clause-remainder
returns-clause-remainder c = remainder_law

pub returns-clause-divides : goal.returns-clause-divides
returns-clause-divides c = divides_law

pub returns-clause-smaller : goal.returns-clause-smaller
returns-clause-smaller c = smaller_law

pub returns-clause-sign : goal.returns-clause-sign
returns-clause-sign c = sign_law
