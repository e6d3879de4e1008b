use Rattle.std.proofs.Common.{◌≡◌, ◌-◌, ◌^◌, drop}
use Rattle.run_notes.specs.Waits.{least_due}
use Rattle.run_notes.proofs.wait_clocks.WaitClocks.ticks_to_overdue.Given as goal

-- the waits that are left, and the least of those so far, make the least of all
abbrev pub invariant-loop-clock : goal.invariant-loop-clock
invariant-loop-clock l =
    least_due l.self.most l.tick l.least (drop l.clock-index l.self.waiting)
    ≡ least_due l.self.most l.tick (2 ^ 64 - 1) l.self.waiting
