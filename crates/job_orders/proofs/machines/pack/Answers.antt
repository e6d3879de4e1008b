use Rattle.job_orders.specs.Learning.{learns_on}
use Rattle.job_orders.proofs.machines.pack.Goals as goal

pub returns-clause-learns : goal.returns-clause-learns
returns-clause-learns c =
    learns_on c.args.tables.now c.pack_jobs.new.tables c.pack_rest.new.tables c.in_ok-jobs.ensures.learns c.in_ok-packed.ensures.learns
