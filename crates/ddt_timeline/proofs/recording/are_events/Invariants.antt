use Rattle.std.specs.List.{list_all}
use Rattle.std.proofs.Common.{◌≡◌, drop}
use Rattle.ddt_timeline.specs.Recorded.{is_event}
use Rattle.ddt_timeline.proofs.recording.are_events.Given as goal

abbrev pub invariant-loop-entry : goal.invariant-loop-entry
invariant-loop-entry l = list_all is_event (drop l.entry-index l.entries) ≡ list_all is_event l.entries
