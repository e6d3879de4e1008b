use Rattle.std.proofs.Common.{◌≡◌, drop}
use Rattle.std.specs.List.{list_any}
use Rattle.key_queues.specs.Stores.{entry_at}
use Rattle.lock_table.proofs.change.is_some_granted.Given as goal

abbrev pub invariant-loop-i : goal.invariant-loop-i
invariant-loop-i g l =
    list_any (λ p. (entry_at l.store p).granted) (drop l.i l.slots) ≡ list_any (λ p. (entry_at l.store p).granted) (drop l.from l.slots)
