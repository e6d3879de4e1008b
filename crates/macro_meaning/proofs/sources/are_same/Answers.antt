use Rattle.std.proofs.Common.{◌∙◌, sym, subst}
use Rattle.std.specs.Prelude.{IsPermutation}
use Rattle.macro_meaning.proofs.sources.are_same.Goals as goal

pub returns : goal.returns
returns c = λ t. subst (IsPermutation c.args.words.now) (sym c.as_slice.ensures.value ∙ c.are_equal.ensures t) c.in_ok-sorted.ensures
