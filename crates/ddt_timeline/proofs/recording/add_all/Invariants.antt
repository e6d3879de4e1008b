use Rattle.std.proofs.Common.{◌≡◌, ◌++◌, drop}
use Rattle.run_record.specs.Pieces.{events_in}
use Rattle.ddt_timeline.specs.Recorded.{recorded}
use Rattle.ddt_timeline.proofs.recording.add_all.Given as goal

-- with the events of the entries that are left they are all
abbrev pub invariant-loop-i : goal.invariant-loop-i
invariant-loop-i l =
    events_in l.events ++ recorded l.machine (drop l.i l.entries) ≡ events_in l.fn.events ++ recorded l.fn.machine l.entries
