use Rattle.std.proofs.Common.{◌≡◌, ◌≤◌, ◌+◌, ◌-◌, ◌^◌, ◌∙◌, ℕ, true, sym, ap, subst, List, arith, length}
use Rattle.word36.specs.declared.sizes.TheConstants.{MOST_REQUESTS}
use Rattle.machine.specs.Deposits.{end_by_hand}
use Rattle.machine.specs.Machine.{S, at_boot}
use Rattle.ddt_timeline.specs.Histories.{History, done, is_place_in, things_of}
use Rattle.ddt_timeline.specs.Timelines.{reached}
use Rattle.ddt_timeline.specs.declared.entries.Entry.{Entry}
use Rattle.ddt_timeline.specs.declared.entries.Entry.TheVariants.{Execute}
use Rattle.ddt_timeline.proofs.HistoryLemmas.{more_history, past_reached, placed_end}
use Rattle.ddt_timeline.proofs.RunLemmas.{let_go_again, made_last}
use Rattle.ddt_timeline.proofs.timeline.Timeline.execute.Goals as goal

no-steps : (part : ℕ) → part + (2 ^ 32 - 1) ≤ 2 ^ 32 - 1 → part ≡ 0
no-steps part room = omega (arith, room)

pub invariant_of-self-then-is_done : goal.invariant_of-self-then-is_done
invariant_of-self-then-is_done c =
    let end : length c.push.new.self.items ≤ c.cut.new.self.whole + 1 = omega (arith, c.in_ok-cut.ensures.last, c.in_ok-push.ensures.len) in
    record {
      within = omega (arith, c.in_ok-cut.ensures.last, c.in_ok-push.ensures.len);
      placed = placed_end c.push.new.self.items (c.cut.new.self.whole + 1) c.cut.new.self.part end;
      reached =
          made_last c.cut.new.self.entries.items c.push.new.self.items (Execute c.args.number c.args.word) c.cut.new.self.whole c.cut.new.self.part
          c.cut.new.self.machine c.execute-end.new.self _
          c.in_ok-cut.ensures.last (no-steps c.cut.new.self.part c.in_ok-cut.ensures.room) c.in_ok-push.ensures.items c.cut.new.self.reached
          c.execute-end.ensures.state;
    }

pub returns-then-is_done-clause-happened : goal.returns-then-is_done-clause-happened
returns-then-is_done-clause-happened c =
    λ complete.
    more_history c.cut.new.self.entries.items c.push.new.self.items (Execute c.args.number c.args.word) c.cut.new.self.whole c.cut.new.self.part _
    c.in_ok-cut.ensures.last (no-steps c.cut.new.self.part c.in_ok-cut.ensures.room) c.in_ok-push.ensures.items
    ∙ ap (λ (h : History). done h (things_of (Execute c.args.number c.args.word))) c.in_ok-cut.ensures.kept

pub returns-then-is_done-clause-end : goal.returns-then-is_done-clause-end
returns-then-is_done-clause-end c =
    c.execute-end.ensures.end
    ∙ ap (λ (s : S). end_by_hand s c.args.number c.args.word)
    (c.in_ok-cut.ensures.machine
    ∙ c.args.self.now.reached
    ∙ past_reached c.args.self.now.entries.items c.args.self.now.whole c.args.self.now.part _)

-- the entry is let go again, and the machine is as it was
pub invariant_of-self-else-is_done : goal.invariant_of-self-else-is_done
invariant_of-self-else-is_done c =
    let whole : ℕ = c.cut.new.self.whole in
    let part : ℕ = c.cut.new.self.part in
    let boot : S = at_boot MOST_REQUESTS c.cut.new.self.config.blocks c.cut.new.self.config.quantum in
    let same : c.truncate.new.self.items ≡ c.cut.new.self.entries.items =
    c.truncate.ensures.items
    ∙ let_go_again c.cut.new.self.entries.items c.push.new.self.items (Execute c.args.number c.args.word) whole c.in_ok-cut.ensures.last
    c.in_ok-push.ensures.items in
    let stays : c.execute-end.new.self ≡ c.cut.new.self.machine = c.execute-end.ensures.kept (sym c.is_done.ensures ∙ c.if-is_done.false) in
    record {
      within = subst (λ (l : List Entry). whole ≤ length l) (sym same) c.cut.new.self.within;
      placed = subst (λ (l : List Entry). is_place_in l whole part ≡ true) (sym same) c.cut.new.self.placed;
      reached = stays ∙ c.cut.new.self.reached ∙ ap (λ (l : List Entry). reached l whole part boot) (sym same);
    }

pub returns-else-is_done-clause-end : goal.returns-else-is_done-clause-end
returns-else-is_done-clause-end c =
    c.execute-end.ensures.end
    ∙ ap (λ (s : S). end_by_hand s c.args.number c.args.word)
    (c.in_ok-cut.ensures.machine
    ∙ c.args.self.now.reached
    ∙ past_reached c.args.self.now.entries.items c.args.self.now.whole c.args.self.now.part _)
