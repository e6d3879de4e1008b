use Rattle.std.proofs.Common.{◌≡◌, arith, subst}
use Rattle.word36.specs.declared.sizes.TheConstants.{JOBS}
use Rattle.wait_graph.specs.Steps.{CountsSteps}
use Rattle.wait_graph.proofs.StepLemmas.{count_further, count_none}
use Rattle.wait_graph.proofs.shortest_circles.steps_to.Goals as goal

pub loop-round-init : goal.loop-round-init
loop-round-init c = count_none c.args.pairs.now c.args.target

pub loop-round-preserved : goal.loop-round-preserved
loop-round-preserved c =
    count_further c.args.pairs.now c.loop-round.steps c.count_further-steps.result c.loop-round.round c.args.target
    c.loop-round.invariant c.count_further-steps.ensures

pub returns : goal.returns
returns c =
    let end : c.loop-round.round ≡ JOBS = omega arith in
    subst (λ n. CountsSteps c.args.pairs.now c.args.target n c.loop-round.steps) end c.loop-round.invariant
