use Rattle.std.proofs.Common.{◌≡◌, ◌*◌, [], map, take}
use Rattle.word36.specs.declared.sizes.TheConstants.{BLOCK_WORDS}
use Rattle.machine.specs.Safe.{all_words}
use Rattle.job_orders.specs.Forms.{JobForm}
use Rattle.job_orders.specs.Tables.{job_of}
use Rattle.job_orders.specs.Views.{padded}
use Rattle.job_orders.proofs.unpacking.set_cores.Given as goal

abbrev pub invariant-loop-k : goal.invariant-loop-k
invariant-loop-k g l =
    ((g.C.CoreStore.meaning l.cores).cores ≡ padded [] (map (λ (j : JobForm). j.core) (take l.k (map (job_of l.tables) l.numbers))))
    × (all_words (g.C.CoreStore.meaning l.cores) ≡ l.blocks * BLOCK_WORDS)
