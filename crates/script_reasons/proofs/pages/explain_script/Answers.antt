use Rattle.std.proofs.Common.{◌≡◌, ◌+◌, ◌∷◌, ◌∙◌, suc, [], List, add-one, ap, arith, drop, drop-cons, length-drop, map, sym}
use Rattle.std.proofs.lemmas.List.{nil_from_length}
use Rattle.std.specs.Str.Lines.{lines}
use Rattle.script_reasons.specs.Pages.{page_text, told_in}
use Rattle.script_reasons.specs.QueueLines.{explanation_in}
use Rattle.script_reasons.specs.declared.queue_lines.ExplainedLine.{ExplainedLine}
use Rattle.script_reasons.proofs.PageLemmas.{line_more, no_line, none_told, told_explanations}
use Rattle.script_reasons.proofs.pages.explain_script.Goals as goal

pub loop-done-preserved : goal.loop-done-preserved
loop-done-preserved c =
    let items = c.as_slice-done-items.result.now in
    let i = c.loop-done.done-index in
    let done = c.done-item.result in
    let next : drop i items ≡ done ∷ drop (i + 1) items =
    rw add-one (drop-cons items i done c.loop-done-test.true ∙ ap (λ (x : ExplainedLine). x ∷ drop (suc i) items) (sym c.done-item.is)) in
    line_more c.loop-done.page.items c.push_line.new.out.items (page_text (lines c.args.script.now) (map told_in items)) c.in-Some.line.now
    c.loop-done.lines c.next.new.self done (drop i items) (drop (i + 1) items) c.in-Some.ensures next c.in_ok-push_line.ensures
    c.loop-done.invariant

pub returns-in_default : goal.returns-in_default
returns-in_default c =
    let items = c.as_slice-done-items.result.now in (
      map told_in items,
      told_explanations items ∙ ap (λ (l : List ExplainedLine). map explanation_in l) c.as_slice-done-items.ensures.value
          ∙ c.in_ok-explained.ensures,
      no_line c.loop-done.page.items (page_text (lines c.args.script.now) (map told_in items)) c.loop-done.lines
          (map told_in (drop c.loop-done.done-index items)) c.in_default.ensures c.loop-done.invariant,
    )

pub returns : goal.returns
returns c =
    let items = c.as_slice-done-items.result.now in
    let none : drop c.loop-done.done-index items ≡ [] = nil_from_length (drop c.loop-done.done-index items) (simp length-drop (omega arith)) in (
      map told_in items,
      told_explanations items ∙ ap (λ (l : List ExplainedLine). map explanation_in l) c.as_slice-done-items.ensures.value
          ∙ c.in_ok-explained.ensures,
      none_told c.loop-done.page.items (page_text (lines c.args.script.now) (map told_in items)) c.loop-done.lines
          (map told_in (drop c.loop-done.done-index items)) (ap (λ (l : List ExplainedLine). map told_in l) none) c.loop-done.invariant,
    )
