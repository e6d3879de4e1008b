use Rattle.std.proofs.Common.{◌≡◌, Some, None, ap, ◌∙◌, arith}
use Rattle.mac_text.specs.Lines.{next_label_at}
use Rattle.mac_text.proofs.ItemLemmas.{items_go_on, items_end, items_done}
use Rattle.mac_text.proofs.WordLemmas.{no_word_in_nothing}
use Rattle.mac_text.proofs.line.labels.Goals as goal

pub returns-in-None-default-clause-labels : goal.returns-in-None-default-clause-labels
returns-in-None-default-clause-labels c =
    let step : next_label_at c.loop.scan ≡ Some (None, c.next_label.new.scan) =
    c.next_label.ensures.label ∙ ap (λ o. Some (o, c.next_label.new.scan)) c.in-None-default.is-0 in
    items_end next_label_at c.loop.out c.len-most.result c.loop.counter c.loop.scan c.next_label.new.scan _ c.loop-test.true step c.loop.invariant.1

pub loop-preserved : goal.loop-preserved
loop-preserved c =
    let label = c.in-Some-default.label in
    let step : next_label_at c.loop.scan ≡ Some (Some label, c.next_label.new.scan) =
    c.next_label.ensures.label ∙ ap (λ o. Some (o, c.next_label.new.scan)) c.in-Some-default.is-0 in
    let shorter = rw c.in-Some-default.is-0 at c.next_label.ensures.shorter in (
      omega (arith, shorter, c.loop.invariant.0),
      rw c.in_ok-push-in-Some-default.ensures
          (items_go_on next_label_at c.loop.out c.len-most.result c.loop.counter c.loop.scan c.next_label.new.scan label _
          c.loop-test.true step c.loop.invariant.1),
    )

pub returns-clause-labels : goal.returns-clause-labels
returns-clause-labels c = items_done next_label_at c.loop.out c.len-most.result c.loop.counter c.loop.scan _ c.loop-test.false c.loop.invariant.1

pub returns-clause-word : goal.returns-clause-word
returns-clause-word c = no_word_in_nothing c.loop.scan.rest (omega (arith, c.loop.invariant.0))
