use Rattle.std.proofs.Common.{◌≡◌, ◌<◌, ℕ}
use Rattle.core_store.specs.Layout.{area_of}
use Rattle.core_store.proofs.areas.job_at.Given as goal

abbrev pub invariant-loop-job : goal.invariant-loop-job
invariant-loop-job l = (k : ℕ) → k < l.job → (area_of l.areas k).base ≡ l.block → (area_of l.areas k).blocks ≡ 0
