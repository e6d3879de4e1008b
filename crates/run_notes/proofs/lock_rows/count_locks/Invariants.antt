use Rattle.std.proofs.Common.{◌≡◌, drop}
use Rattle.run_notes.specs.Waits.{with_counts}
use Rattle.run_notes.proofs.lock_rows.count_locks.Given as goal

-- the rows, with the other locks counted, are those with all of them counted
abbrev pub invariant-loop-want : goal.invariant-loop-want
invariant-loop-want l =
    with_counts l.count (drop l.want-index l.wants) l.rows.items ≡ with_counts l.count l.wants l.initial.rows.items
