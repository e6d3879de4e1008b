use Rattle.ka_word.proofs.ShiftLaws.{back_law, left_fits_law, left_law, right_law}
use Rattle.ka_word.proofs.laws.shift_laws.Goals as goal

pub returns-clause-left_fits : goal.returns-clause-left_fits
returns-clause-left_fits c = left_fits_law

pub returns-clause-left : goal.returns-clause-left
returns-clause-left c = left_law

pub returns-clause-right : goal.returns-clause-right
returns-clause-right c = right_law

pub returns-clause-back : goal.returns-clause-back
returns-clause-back c = back_law
