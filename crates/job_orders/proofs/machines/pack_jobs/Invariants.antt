use Rattle.std.proofs.Common.{◌≡◌, map}
use Rattle.std.specs.List.{All}
use Rattle.job_orders.specs.Tables.{IsJob, Learns, job_of}
use Rattle.job_orders.specs.Views.{jobs_in}
use Rattle.job_orders.proofs.machines.pack_jobs.Given as goal

abbrev pub invariant-loop-k : goal.invariant-loop-k
invariant-loop-k l = record {
  same : l.machine ≡ l.initial.machine;
  jobs : map (job_of l.tables) l.numbers.items ≡ jobs_in l.initial.machine l.k;
  each : All (IsJob l.tables) l.numbers.items;
  learns : Learns l.initial.tables l.tables;
}
