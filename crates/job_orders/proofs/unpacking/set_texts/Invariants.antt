use Rattle.std.proofs.Common.{◌≡◌, [], map, take}
use Rattle.job_orders.specs.Forms.{JobForm}
use Rattle.job_orders.specs.Tables.{job_of}
use Rattle.job_orders.specs.Views.{padded}
use Rattle.job_orders.proofs.unpacking.set_texts.Given as goal

abbrev pub invariant-loop-k : goal.invariant-loop-k
invariant-loop-k l = map (λ t. t.items) l.texts ≡ padded [] (map (λ (j : JobForm). j.text) (take l.k (map (job_of l.tables) l.numbers)))
