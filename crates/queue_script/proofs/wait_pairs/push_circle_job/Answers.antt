use Rattle.wait_graph.specs.Pairs.{pair_in}
use Rattle.queue_script.proofs.PairLemmas.{no_circle}
use Rattle.queue_script.proofs.wait_pairs.push_circle_job.Goals as goal

pub returns-then-not-waiting-job : goal.returns-then-not-waiting-job
returns-then-not-waiting-job c =
    no_circle c.args.waiting.now (pair_in c.args.pairs.now) c.args.job c.args.out.now.items c.requires.marked c.requires.job.0
    c.requires.job.1 c.if-not-waiting-job.true
