use Rattle.std.proofs.Common.{◌≡◌, ◌≤◌, length, arith, rules}
use Rattle.wait_graph.specs.declared.pairs.TheConstants.{NUMBERS, PAIRS}
use Rattle.wait_graph.proofs.StepLemmas.{no_circle_beyond}
use Rattle.wait_graph.proofs.shortest_circles.circle_through.Goals as goal

pub returns-then-target-ge-NUMBERS-clause-none : goal.returns-then-target-ge-NUMBERS-clause-none
returns-then-target-ge-NUMBERS-clause-none c =
    let size : length c.args.pairs.now ≡ PAIRS = search rules in
    let far : NUMBERS ≤ c.args.job = omega arith in
    λ _. no_circle_beyond c.args.pairs.now c.args.job size far
