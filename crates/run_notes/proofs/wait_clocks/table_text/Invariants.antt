use Rattle.std.proofs.Common.{◌≡◌, ◌++◌, drop, string_bytes}
use Rattle.std.specs.List.{flat_map}
use Rattle.run_notes.specs.Waits.{lock_line}
use Rattle.run_notes.proofs.wait_clocks.table_text.Given as goal

-- the lines so far, and those of the other locks, are all lines
abbrev pub invariant-loop-row : goal.invariant-loop-row
invariant-loop-row l =
    string_bytes l.text ++ flat_map (lock_line l.waiting) (drop l.row-index l.rows)
    ≡ string_bytes l.initial.text ++ flat_map (lock_line l.waiting) l.rows
