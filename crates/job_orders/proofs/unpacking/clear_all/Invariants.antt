use Rattle.std.proofs.Common.{◌≡◌, [], map, replicate, take, length}
use Rattle.job_orders.proofs.unpacking.clear_all.Given as goal

abbrev pub invariant-loop-n : goal.invariant-loop-n
invariant-loop-n l = (map (λ t. t.items) (take l.n l.texts) ≡ replicate l.n []) × (length l.texts ≡ length l.initial.texts)
