use Rattle.wait_graph.specs.Steps.{CountsSteps}
use Rattle.wait_graph.proofs.shortest_circles.steps_to.Given as goal

abbrev pub invariant-loop-round : goal.invariant-loop-round
invariant-loop-round l = CountsSteps l.pairs l.target l.round l.steps
