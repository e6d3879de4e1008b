use Rattle.ka_word.proofs.ProductLaws.{fits_law, product_law, signs_law, whole_law}
use Rattle.ka_word.proofs.laws.product_laws.Goals as goal

pub returns-clause-product : goal.returns-clause-product
returns-clause-product c = product_law

pub returns-clause-signs : goal.returns-clause-signs
returns-clause-signs c = signs_law

pub returns-clause-fits : goal.returns-clause-fits
returns-clause-fits c = fits_law

pub returns-clause-whole : goal.returns-clause-whole
returns-clause-whole c = whole_law
