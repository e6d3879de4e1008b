use Rattle.std.proofs.Common.{refl}
use Rattle.ka_word.proofs.SumLaws.{add_fits_law, add_law, negate_fits_law, negate_law, sub_fits_law, sub_law}
use Rattle.ka_word.proofs.laws.sum_laws.Goals as goal

pub returns-clause-add_fits : goal.returns-clause-add_fits
returns-clause-add_fits c = add_fits_law

pub returns-clause-add : goal.returns-clause-add
returns-clause-add c = add_law

pub returns-clause-sub_fits : goal.returns-clause-sub_fits
returns-clause-sub_fits c = sub_fits_law

pub returns-clause-sub : goal.returns-clause-sub
returns-clause-sub c = sub_law

pub returns-clause-negate_fits : goal.returns-clause-negate_fits
returns-clause-negate_fits c = negate_fits_law

pub returns-clause-negate : goal.returns-clause-negate
returns-clause-negate c = negate_law

pub returns-clause-least : goal.returns-clause-least
returns-clause-least c = refl
