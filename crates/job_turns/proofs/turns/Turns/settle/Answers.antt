use Rattle.job_turns.proofs.GoingOn.{next-settled, none-settled}
use Rattle.job_turns.proofs.turns.Turns.settle.Goals as goal

pub loop-k-init : goal.loop-k-init
loop-k-init g c = record { so_far = none-settled c.args.most c.args.self.now; awake = c.requires.awake }

pub loop-k-preserved : goal.loop-k-preserved
loop-k-preserved g c = record {
  so_far =
      next-settled c.args.most c.loop-k.k c.args.self.now c.loop-k.self c.settle_job.new.self c.loop-k.invariant.so_far
      c.in_ok-settle_job.ensures.alone;
  awake = c.in_ok-settle_job.ensures.awake;
}
