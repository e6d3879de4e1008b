use Rattle.std.proofs.Common.{◌≡◌, None, map, take}
use Rattle.job_orders.specs.Forms.{JobForm}
use Rattle.job_orders.specs.Tables.{job_of}
use Rattle.job_orders.specs.Views.{padded}
use Rattle.job_orders.proofs.unpacking.set_slots.Given as goal

abbrev pub invariant-loop-k : goal.invariant-loop-k
invariant-loop-k l =
    (l.table ≡ record { jobs = padded None (map (λ (j : JobForm). j.slot) (take l.k (map (job_of l.tables) l.numbers))); current = 0; left = 0 })
    × (l.last ≡ padded 0 (map (λ (j : JobForm). j.last) (take l.k (map (job_of l.tables) l.numbers))))
