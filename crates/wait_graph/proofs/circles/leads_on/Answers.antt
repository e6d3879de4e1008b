use Rattle.wait_graph.specs.Pairs.{pair_in}
use Rattle.wait_graph.proofs.PairLemmas.{leads_nowhere}
use Rattle.wait_graph.proofs.circles.leads_on.Goals as goal

pub returns-then-not-waiting-job : goal.returns-then-not-waiting-job
returns-then-not-waiting-job c =
    leads_nowhere c.args.waiting.now c.args.reached.now (pair_in c.args.pairs.now) c.args.job c.args.target c.requires.marked
    c.requires.job c.requires.target c.if-not-waiting-job.true
