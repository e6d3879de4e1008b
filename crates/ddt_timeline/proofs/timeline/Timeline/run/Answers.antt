use Rattle.std.proofs.Common.{◌≤◌, ◌+◌, ◌∙◌, ap, arith, length, refl, replicate, subst}
use Rattle.machine.specs.Machine.{S}
use Rattle.ddt_timeline.specs.Asking.{IsAsked}
use Rattle.ddt_timeline.specs.Runs.{IsRun}
use Rattle.ddt_timeline.specs.Histories.{History, done, one_step}
use Rattle.ddt_timeline.proofs.HistoryLemmas.{past_reached, placed_end, run_history, run_reached}
use Rattle.ddt_timeline.proofs.RunLemmas.{same_stops}
use Rattle.ddt_timeline.proofs.timeline.Timeline.run.Goals as goal

pub invariant_of-self : goal.invariant_of-self
invariant_of-self g c =
    let part = c.cut.new.self.part in
    let made = c.run_until-ran.result.made in
    let end : length c.cut.new.self.entries.items ≤ c.cut.new.self.whole = omega (arith, c.in_ok-cut.ensures.last) in
    record {
      within = omega (arith, c.in_ok-cut.ensures.last);
      placed = placed_end c.cut.new.self.entries.items c.cut.new.self.whole (part + made) end;
      reached =
          run_reached c.cut.new.self.entries.items c.cut.new.self.whole part made (part + made) c.cut.new.self.machine
          c.run_until-ran.new.machine _ refl c.cut.new.self.reached c.run_until-ran.ensures.state;
    }

pub returns-clause-happened : goal.returns-clause-happened
returns-clause-happened g c =
    let part = c.cut.new.self.part in
    let made = c.run_until-ran.result.made in
    run_history c.cut.new.self.entries.items c.cut.new.self.whole part made (part + made) _ c.in_ok-cut.ensures.last refl
    ∙ ap (λ (h : History). done h (replicate made one_step)) c.in_ok-cut.ensures.kept

pub returns-clause-run : goal.returns-clause-run
returns-clause-run g c =
    subst (λ (s : S). IsRun s c.args.stops.now c.args.most c.run_until-ran.result)
    (c.in_ok-cut.ensures.machine
    ∙ c.args.self.now.reached
    ∙ past_reached c.args.self.now.entries.items c.args.self.now.whole c.args.self.now.part _)
    c.run_until-ran.ensures.run

pub returns-clause-asked : goal.returns-clause-asked
returns-clause-asked g c =
    λ looks some.
    subst (λ (s : S). IsAsked g.W.Watch.Asks s c.args.watch.now c.run_until-ran.new.watch c.run_until-ran.result)
    (c.in_ok-cut.ensures.machine
    ∙ c.args.self.now.reached
    ∙ past_reached c.args.self.now.entries.items c.args.self.now.whole c.args.self.now.part _)
    (c.run_until-ran.ensures.asked looks some)

pub returns-clause-stops : goal.returns-clause-stops
returns-clause-stops g c = same_stops c.args.stops.now _ c.run_until-ran.new.machine c.run_until-ran.ensures.stood
