use Rattle.std.proofs.Common.{◌≡◌, drop}
use Rattle.std.specs.List.{list_any}
use Rattle.lock_table.specs.Changing.{loses_by}
use Rattle.lock_table.proofs.change.some_loses.Given as goal

abbrev pub invariant-loop-c : goal.invariant-loop-c
invariant-loop-c g l = list_any (loses_by l.store l.job) (drop l.c-index l.changes) ≡ list_any (loses_by l.store l.job) l.changes
