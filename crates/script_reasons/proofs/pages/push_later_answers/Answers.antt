use Rattle.std.proofs.Common.{◌++◌, ◌∙◌, [], List, ℕ, ap, append-nil, sym}
use Rattle.std.specs.List.{flat_map}
use Rattle.script_reasons.specs.Pages.{answer_text}
use Rattle.script_reasons.proofs.PageLemmas.{answer_more}
use Rattle.script_reasons.proofs.pages.push_later_answers.Goals as goal

pub loop-line-preserved : goal.loop-line-preserved
loop-line-preserved c =
    answer_more c.loop-line.out.items c.push_answer.new.out.items (c.args.out.now.items ++ flat_map (answer_text []) c.args.lines.now)
    c.in-Some.line.now c.loop-line.lines c.next.new.self c.in-Some.ensures c.in_ok-push_answer.ensures c.loop-line.invariant

pub returns : goal.returns
returns c =
    sym (append-nil c.loop-line.out.items)
    ∙ ap (λ (ls : List (List ℕ)). c.loop-line.out.items ++ flat_map (answer_text []) ls) (sym c.in_default.ensures)
    ∙ c.loop-line.invariant
