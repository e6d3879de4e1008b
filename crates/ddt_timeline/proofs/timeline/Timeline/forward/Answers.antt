use Rattle.std.proofs.Common.{◌≡◌, ◌∙◌, ap, arith, length}
use Rattle.ddt_timeline.specs.Histories.{History, at_end}
use Rattle.ddt_timeline.proofs.HistoryLemmas.{end_history}
use Rattle.ddt_timeline.proofs.timeline.Timeline.forward.Goals as goal

pub returns-clause-end : goal.returns-clause-end
returns-clause-end c =
    let all : c.len-whole.result ≡ length c.settle.new.self.entries.items = omega (arith, c.len-whole.ensures) in
    c.in_ok-go_to.ensures.there
    ∙ end_history c.settle.new.self.entries.items c.settle.new.self.whole c.settle.new.self.part c.len-whole.result _
    c.in_ok-settle.ensures.place all
    ∙ ap (λ (h : History). at_end h) c.in_ok-settle.ensures.kept
