use Rattle.std.proofs.Common.{◌∙◌, sym}
use Rattle.macro_meaning.proofs.Lists.{same_lists, same_pairs}
use Rattle.macro_meaning.proofs.sources.are_equal.Goals as goal

pub returns : goal.returns
returns c = λ t. same_lists _ same_pairs c.args.words.now c.args.others.now (sym c.eq.ensures ∙ t)
