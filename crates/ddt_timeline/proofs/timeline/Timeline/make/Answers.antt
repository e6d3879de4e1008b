use Rattle.std.proofs.Common.{◌≡◌, ◌≤◌, ◌+◌, ◌-◌, ◌^◌, ◌∙◌, ℕ, ap, arith, length}
use Rattle.ddt_timeline.specs.Histories.{History, done, things_of}
use Rattle.ddt_timeline.proofs.HistoryLemmas.{answer_more, more_history, past_reached, placed_end}
use Rattle.ddt_timeline.proofs.RunLemmas.{made_more}
use Rattle.ddt_timeline.proofs.timeline.Timeline.make.Goals as goal

no-steps : (part : ℕ) → part + (2 ^ 32 - 1) ≤ 2 ^ 32 - 1 → part ≡ 0
no-steps part room = omega (arith, room)

pub invariant_of-self-2 : goal.invariant_of-self-2
invariant_of-self-2 c =
    let end : length c.push.new.self.items ≤ c.cut.new.self.whole + 1 = omega (arith, c.in_ok-cut.ensures.last, c.in_ok-push.ensures.len) in
    record {
      within = omega (arith, c.in_ok-cut.ensures.last, c.in_ok-push.ensures.len);
      placed = placed_end c.push.new.self.items (c.cut.new.self.whole + 1) c.cut.new.self.part end;
      reached =
          made_more c.cut.new.self.entries.items c.push.new.self.items c.args.entry c.index.result.now c.cut.new.self.whole c.cut.new.self.part
          c.cut.new.self.machine c.perform-answer.new.machine _
          c.in_ok-cut.ensures.last (no-steps c.cut.new.self.part c.in_ok-cut.ensures.room) c.in_ok-push.ensures.items c.index.ensures c.cut.new.self.reached
          c.perform-answer.ensures.state;
    }

pub returns-clause-happened : goal.returns-clause-happened
returns-clause-happened c =
    more_history c.cut.new.self.entries.items c.push.new.self.items c.args.entry c.cut.new.self.whole c.cut.new.self.part _
    c.in_ok-cut.ensures.last (no-steps c.cut.new.self.part c.in_ok-cut.ensures.room) c.in_ok-push.ensures.items
    ∙ ap (λ (h : History). done h (things_of c.args.entry)) c.in_ok-cut.ensures.kept

pub returns-clause-answer : goal.returns-clause-answer
returns-clause-answer c =
    answer_more c.cut.new.self.entries.items c.push.new.self.items c.args.entry c.index.result.now c.cut.new.self.whole
    c.cut.new.self.machine _ c.perform-answer.result c.in_ok-cut.ensures.last c.in_ok-push.ensures.items c.index.ensures
    (c.in_ok-cut.ensures.machine
    ∙ c.args.self.now.reached
    ∙ past_reached c.args.self.now.entries.items c.args.self.now.whole c.args.self.now.part _)
    c.perform-answer.ensures.answer
