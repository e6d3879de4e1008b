use Rattle.std.proofs.Common.{◌≡◌, ◌++◌, ◌∷◌, ◌∙◌, [], false, true, sym, arith, rules}
use Rattle.std.proofs.lemmas.Grind.{common_steps}
use Rattle.std.specs.List.{list_any}
use Rattle.lock_queue.specs.Waits.{jobs}
use Rattle.wait_graph.specs.Pairs.{pair_in}
use Rattle.wait_graph.specs.Steps.{is_nearer}
use Rattle.wait_graph.proofs.StepLemmas.{closes, first_kept, goes_on, is_nearer_by, reaches_next}
use Rattle.wait_graph.proofs.shortest_circles.walk_back.Goals as goal

pub returns-in_default-clause-none : goal.returns-in_default-clause-none
returns-in_default-clause-none c =
    let pairs = c.args.pairs.now in
    let steps = c.args.steps.now in
    let apart : pair_in pairs c.loop-at.at c.args.target ≡ false = search rules in
    let some : list_any (is_nearer pairs steps c.loop-at.at) jobs ≡ true =
    goes_on pairs steps c.args.target c.loop-at.at c.requires.steps c.loop-at.invariant.within c.loop-at.invariant.some apart in
    let none : list_any (is_nearer pairs steps c.loop-at.at) jobs ≡ false = search rules in
    let contrary : true ≡ false = sym some ∙ none in
    cc

pub loop-at-preserved : goal.loop-at-preserved
loop-at-preserved c =
    let pairs = c.args.pairs.now in
    let steps = c.args.steps.now in
    let next = c.in-Some.next in
    let nearer = is_nearer_by pairs steps c.loop-at.at next c.in-Some.ensures.nearer in
    let pushed : c.push-in-loop-at.new.self.items ≡ c.loop-at.circle.items ++ next ∷ [] = search rules in
    record {
      within = c.in-Some.ensures.within;
      some = nearer.1;
      first = rw pushed (first_kept c.loop-at.circle.items next c.args.target c.loop-at.invariant.first);
      walk = rw pushed (reaches_next (pair_in pairs) c.loop-at.circle.items c.loop-at.at next c.loop-at.invariant.walk nearer.0);
      few = grind (arith, common_steps, pushed, nearer.2, c.loop-at.invariant.few);
    }

pub returns-clause-circle : goal.returns-clause-circle
returns-clause-circle c =
    let here : pair_in c.args.pairs.now c.loop-at.at c.args.target ≡ true = search rules in
    closes (pair_in c.args.pairs.now) c.loop-at.circle.items c.loop-at.at c.args.target c.loop-at.invariant.walk c.loop-at.invariant.first here
