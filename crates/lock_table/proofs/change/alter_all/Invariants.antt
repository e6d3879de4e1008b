use Rattle.std.proofs.Common.{drop}
use Rattle.lock_table.specs.Changing.{AreSound, IsAltering, IsBetween}
use Rattle.lock_table.proofs.change.alter_all.Given as goal

abbrev pub invariant-loop-c : goal.invariant-loop-c
invariant-loop-c g l = record {
  between : IsBetween l.store l.keys;
  sound : AreSound l.store l.keys l.job (drop l.c-index l.changes);
  altered : IsAltering l.initial.store l.store l.initial.keys l.keys l.job l.changes (drop l.c-index l.changes);
}
