use Rattle.std.proofs.Common.{◌∙◌}
use Rattle.ddt_timeline.proofs.HistoryLemmas.{placed_at}
use Rattle.ddt_timeline.proofs.RunLemmas.{replayed}
use Rattle.ddt_timeline.proofs.timeline.Timeline.go_to.Goals as goal

pub invariant_of-self : goal.invariant_of-self
invariant_of-self c = record {
  within = c.requires.within;
  placed = placed_at c.args.self.now.entries.items c.args.whole c.args.part c.requires.place;
  reached =
      c.replace.ensures.after
      ∙ replayed c.args.self.now.entries.items c.beginning.result.now c.args.whole c.args.part c.in_ok-machine.machine c.play.new.machine
      c.steps.new.self _
      c.in_ok-machine.ensures c.beginning.ensures c.play.ensures c.steps.ensures.state;
}
