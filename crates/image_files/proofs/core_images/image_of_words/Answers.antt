use Rattle.std.proofs.Common.{ap}
use Rattle.image_files.specs.Loads.{loaded}
use Rattle.image_files.proofs.WordLemmas.{image_fits}
use Rattle.image_files.specs.CoreImages.{image_or}
use Rattle.image_files.proofs.core_images.image_of_words.Goals as goal

pub returns-in-Ok-clause-told : goal.returns-in-Ok-clause-told
returns-in-Ok-clause-told c = ap image_or c.in-Ok.ensures.told

pub returns-in-Ok-clause-fit : goal.returns-in-Ok-clause-fit
returns-in-Ok-clause-fit c = image_fits c.args.words.now (loaded c.in-Ok.image) c.requires c.in-Ok.ensures.told
