use Rattle.std.proofs.Common.{◌<◌, ◌∙◌, length, arith}
use Rattle.std.proofs.Math.ListN.{length-set}
use Rattle.lock_queue.specs.Jobs.{is_waiting_job}
use Rattle.wait_graph.proofs.PairLemmas.{set-known}
use Rattle.wait_graph.proofs.pairs.waiting_jobs.Goals as goal

pub loop-job-preserved : goal.loop-job-preserved
loop-job-preserved g c =
    let size = c.loop-job.invariant.size in
    let within : c.loop-job.job < length c.loop-job.waiting = omega arith in
    record {
      size = length-set c.loop-job.waiting c.loop-job.job c.is_waiting.result ∙ size;
      known =
          set-known c.loop-job.waiting c.loop-job.job c.is_waiting.result (is_waiting_job (g.L.LockTable.requests c.args.table.now))
          within c.loop-job.invariant.known c.is_waiting.ensures;
    }
