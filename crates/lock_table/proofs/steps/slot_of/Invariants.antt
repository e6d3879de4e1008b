use Rattle.std.proofs.Common.{◌≡◌, ◌==◌, drop}
use Rattle.std.specs.List.{find}
use Rattle.lock_table.specs.Reads.{request_at}
use Rattle.lock_table.proofs.steps.slot_of.Given as goal

abbrev pub invariant-loop-p : goal.invariant-loop-p
invariant-loop-p g l =
    find (λ p. (request_at l.store p).job == l.job) (drop l.p-index l.slots) ≡ find (λ p. (request_at l.store p).job == l.job) l.slots
