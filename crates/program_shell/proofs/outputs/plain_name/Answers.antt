use Rattle.std.proofs.Common.{◌∙◌}
use Rattle.program_shell.proofs.OutputLemmas.{plain_behind, plain_short, plain_other, plain_dot}
use Rattle.program_shell.proofs.outputs.plain_name.Goals as goal

pub loop-rest-preserved : goal.loop-rest-preserved
loop-rest-preserved c =
    plain_behind c.loop-rest.rest.now c.loop-rest-test.true c.if-rest-eq46.true c.if-rest-eq47.true ∙ c.loop-rest.invariant

pub returns-else-rest-eq47 : goal.returns-else-rest-eq47
returns-else-rest-eq47 c = plain_dot c.loop-rest.rest.now c.if-rest-eq47.false ∙ c.loop-rest.invariant

pub returns-else-rest-eq46 : goal.returns-else-rest-eq46
returns-else-rest-eq46 c = plain_other c.loop-rest.rest.now c.if-rest-eq46.false ∙ c.loop-rest.invariant

pub returns-after-loop-rest : goal.returns-after-loop-rest
returns-after-loop-rest c = plain_short c.loop-rest.rest.now c.loop-rest-test.false ∙ c.loop-rest.invariant
