use Rattle.std.proofs.Common.{◌≡◌, ◌++◌}
use Rattle.run_record.specs.Pieces.{events_in, rounds}
use Rattle.run_record.proofs.sequence.EventSequence.add_rounds.Given as goal

-- the events so far, and the rounds that are left, are all events
abbrev pub invariant-loop-left : goal.invariant-loop-left
invariant-loop-left l = events_in l.self ++ rounds l.left ≡ events_in l.initial.self ++ rounds l.count

abbrev pub decreases-loop-left : goal.decreases-loop-left
decreases-loop-left l = l.left
