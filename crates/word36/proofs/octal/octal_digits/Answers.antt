use Rattle.std.proofs.Common.{◌∙◌, arith}
use Rattle.std.proofs.lemmas.Grind.{common_steps}
use Rattle.word36.proofs.OctalLemmas.{octal_turn}
use Rattle.word36.specs.Octal.{octal}
use Rattle.word36.proofs.octal.octal_digits.Goals as goal

pub loop-position-init : goal.loop-position-init
loop-position-init g c = grind (arith, common_steps)

pub loop-position-preserved : goal.loop-position-preserved
loop-position-preserved g c =
    (grind (arith, common_steps), octal_turn _ _ _ c.loop-position-test.true (omega arith) ∙ c.loop-position.invariant.1)

pub returns : goal.returns
unfolding octal
returns g c = grind (arith, common_steps)
