use Rattle.std.specs.List.{list_all}
use Rattle.std.proofs.Common.{ap, List}
use Rattle.ddt_timeline.specs.Recorded.{is_event}
use Rattle.ddt_timeline.specs.declared.entries.Entry.{Entry}
use Rattle.ddt_timeline.proofs.RecordedLemmas.{past_are_events}
use Rattle.ddt_timeline.proofs.recording.push_past.Goals as goal

pub returns-then-not-are_events-clause-said : goal.returns-then-not-are_events-clause-said
returns-then-not-are_events-clause-said c =
    let all = past_are_events c.args.timeline.now.entries.items c.args.timeline.now.whole c.args.timeline.now.part in
    let front = ap (λ (l : List Entry). list_all is_event l) c.entries.ensures in
    cc

pub returns-clause-said : goal.returns-clause-said
returns-clause-said c =
    let all = past_are_events c.args.timeline.now.entries.items c.args.timeline.now.whole c.args.timeline.now.part in
    let front = ap (λ (l : List Entry). list_all is_event l) c.entries.ensures in
    cc
