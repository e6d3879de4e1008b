use Rattle.std.proofs.Common.{◌≡◌, ◌++◌, replicate}
use Rattle.run_record.specs.Pieces.{events_in}
use Rattle.run_record.specs.declared.happened.RunEvent.TheVariants.{Tick}
use Rattle.ddt_timeline.proofs.recording.add_ticks.Given as goal

-- so many ticks were added
abbrev pub invariant-loop-i : goal.invariant-loop-i
invariant-loop-i l = events_in l.events ≡ events_in l.fn.events ++ replicate l.i Tick
