use Rattle.std.proofs.Common.{◌≡◌, drop}
use Rattle.run_notes.specs.Waits.{with_waits}
use Rattle.run_notes.proofs.wait_clocks.add_waits.Given as goal

-- the rows, with the other waits counted, are those with all of them counted
abbrev pub invariant-loop-clock : goal.invariant-loop-clock
invariant-loop-clock l =
    with_waits l.tick (drop l.clock-index l.waiting) l.rows.items ≡ with_waits l.tick l.waiting l.initial.rows.items
