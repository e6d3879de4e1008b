use Rattle.std.proofs.Common.{◌∙◌, sym}
use Rattle.source_check.proofs.Lists.{same_lists, same_pairs}
use Rattle.source_check.proofs.checks.are_same.Goals as goal

pub returns : goal.returns
returns c = λ t. same_lists _ same_pairs c.args.words.now c.args.others.now (sym c.eq.ensures ∙ t)
