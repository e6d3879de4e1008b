use Rattle.std.proofs.Common.{drop}
use Rattle.lock_table.specs.Changing.{IsBetween, IsExtending}
use Rattle.lock_table.specs.Flips.{Flipped}
use Rattle.lock_table.proofs.table.Table.extend_all.Given as goal

abbrev pub invariant-loop-c : goal.invariant-loop-c
invariant-loop-c g l = record {
  between : IsBetween l.self.store l.self.keys;
  extended : IsExtending l.initial.self.store l.self.store l.initial.self.keys l.self.keys (drop l.c-index l.changes);
  flips : Flipped l.initial.self.store l.self.store l.initial.self.flips l.self.flips;
}
