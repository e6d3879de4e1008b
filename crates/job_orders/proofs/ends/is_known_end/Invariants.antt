use Rattle.std.proofs.Common.{◌≢◌, ◌<◌, ℕ}
use Rattle.std.specs.Prelude.{slice_index_or}
use Rattle.job_orders.specs.declared.ends.End.{End}
use Rattle.job_orders.specs.Endings.{ending_in, ending_of}
use Rattle.job_orders.proofs.ends.is_known_end.Given as goal

abbrev pub invariant-loop-end : goal.invariant-loop-end
invariant-loop-end l = (k : ℕ) (d : End) → k < l.end-index → ending_of (slice_index_or l.ends k d) ≢ ending_in l.count l.machine
