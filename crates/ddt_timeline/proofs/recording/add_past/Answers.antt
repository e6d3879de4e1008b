use Rattle.run_record.specs.Pieces.{events_in}
use Rattle.ddt_timeline.proofs.RecordedLemmas.{past_added}
use Rattle.ddt_timeline.specs.Views.{history}
use Rattle.ddt_timeline.proofs.recording.add_past.Goals as goal

pub returns : goal.returns
returns c =
    past_added c.args.timeline.now.entries.items c.entries.result.now c.args.timeline.now.whole c.args.timeline.now.part
    (history c.args.timeline.now).boot c.in_ok-machine.machine (events_in c.args.events.now) (events_in c.add_all-added.new.events)
    (events_in c.add_rounds.new.self)
    c.in_ok-machine.ensures c.entries.ensures c.in_ok-added.ensures (rw c.part.ensures at c.in_ok-add_rounds.ensures)
