use Rattle.std.proofs.Common.{◌≡◌, ◌++◌, take, drop}
use Rattle.run_notes.specs.Waits.{with_count}
use Rattle.run_notes.proofs.lock_rows.count_lock.Given as goal

-- no row so far is the lock's
abbrev pub invariant-loop-i : goal.invariant-loop-i
invariant-loop-i l = record {
  same : l.rows ≡ l.initial.rows;
  none : take l.i l.rows.items ++ with_count l.count l.key (drop l.i l.rows.items) ≡ with_count l.count l.key l.rows.items;
}
