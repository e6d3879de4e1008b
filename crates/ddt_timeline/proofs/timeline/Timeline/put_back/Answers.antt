use Rattle.std.proofs.Common.{◌≡◌, ◌<◌, ◌∙◌, sym, ap, arith, refl, List}
use Rattle.ddt_timeline.specs.Histories.{History, everything, is_before_step}
use Rattle.ddt_timeline.specs.Timelines.{steps_in}
use Rattle.ddt_timeline.specs.Views.{history}
use Rattle.ddt_timeline.specs.declared.entries.Entry.{Entry}
use Rattle.ddt_timeline.proofs.HistoryLemmas.{at-place, everything-at, steps_everywhere, steps_past}
use Rattle.ddt_timeline.proofs.timeline.Timeline.put_back.Goals as goal

pub returns-in_default-clause-fewer : goal.returns-in_default-clause-fewer
returns-in_default-clause-fewer c =
    λ _.
    let same : steps_in (everything (history c.settle.new.self)) ≡ steps_in (everything (history c.args.self.now)) =
    ap (λ (h : History). steps_in (everything h)) c.in_ok-settle.ensures.kept in
    let all : steps_in (everything (history c.settle.new.self)) ≡ steps_in c.settle.new.self.entries.items =
    steps_everywhere c.settle.new.self.entries.items c.settle.new.self.whole c.settle.new.self.part c.in_ok-settle.ensures.place in
    let list : steps_in c.as_slice.result.now ≡ steps_in c.settle.new.self.entries.items =
    ap (λ (l : List Entry). steps_in l) c.as_slice.ensures.value in
    let fewer : steps_in c.as_slice.result.now < c.args.steps = c.in_default.ensures.fewer refl in
    omega (arith, same, all, list, fewer)

pub returns-clause-kept : goal.returns-clause-kept
returns-clause-kept c =
    ap (λ (h : History). everything h) c.in_ok-go_to.ensures.there
    ∙ everything-at c.settle.new.self.entries.items c.in-Some.whole c.in-Some.part
    (rw c.as_slice.ensures.value at c.in-Some.ensures.place)
    ∙ sym (everything-at c.settle.new.self.entries.items c.settle.new.self.whole c.settle.new.self.part c.in_ok-settle.ensures.place)
    ∙ ap (λ (h : History). everything h) c.in_ok-settle.ensures.kept

pub returns-clause-there : goal.returns-clause-there
returns-clause-there c =
    λ _.
    ap (λ (h : History). steps_in h.past) c.in_ok-go_to.ensures.there
    ∙ steps_past c.settle.new.self.entries.items c.in-Some.whole c.in-Some.part
    ∙ (rw c.as_slice.ensures.value at c.in-Some.ensures.count)

pub returns-clause-last : goal.returns-clause-last
returns-clause-last c =
    λ _.
    ap (λ (h : History). is_before_step h.ahead) c.in_ok-go_to.ensures.there
    ∙ (at-place _ c.in-Some.part (rw c.as_slice.ensures.value at c.in-Some.ensures.place)).next
