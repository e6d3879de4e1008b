use Rattle.std.proofs.Common.{◌∙◌, ℕ, unwrap_or, length, sym, ap, subst}
use Rattle.std.proofs.lemmas.Result.{IfErr-weaker, IfOk-weaker}
use Rattle.std.specs.List.{All}
use Rattle.std.specs.Str.Lines.{lines}
use Rattle.lock_bars.specs.Arrows.{HasLock}
use Rattle.lock_bars.specs.Courses.{course, has_line, requests_behind}
use Rattle.wait_graph.specs.Graphs.{Shows}
use Rattle.lock_bars.specs.Courses.{line_columns}
use Rattle.lock_bars.specs.Lanes.{lanes_of}
use Rattle.lock_bars.proofs.BarLemmas.{bars_last}
use Rattle.lock_bars.proofs.CourseLemmas.{arrows_drawn, both_ok, drawn, locks_drawn, script_ends, short_fault}
use Rattle.lock_bars.proofs.scripts.draw_script.Goals as goal

pub returns-in_err-table-clause-ends : goal.returns-in_err-table-clause-ends
returns-in_err-table-clause-ends c = script_ends c.args.script.now

pub returns-in_err-seen-clause-ends : goal.returns-in_err-seen-clause-ends
returns-in_err-seen-clause-ends c = script_ends c.args.script.now

pub returns-clause-bars : goal.returns-clause-bars
returns-clause-bars c = IfOk-weaker c.drawing_of.result _ _ (λ drawing same. rw same c.in_ok-seen.ensures.bars) c.drawing_of.ensures.bars

pub returns-clause-columns : goal.returns-clause-columns
returns-clause-columns c =
    IfOk-weaker c.drawing_of.result _ _ (λ drawing same. rw same (c.in_ok-seen.ensures.columns ∙ c.in_ok-seen.ensures.lines)) c.drawing_of.ensures.columns

pub returns-clause-done : goal.returns-clause-done
returns-clause-done c = IfOk-weaker c.drawing_of.result _ _ (λ drawing _. c.in_ok-seen.ensures.done) c.drawing_of.ensures.bars

pub returns-clause-waits : goal.returns-clause-waits
returns-clause-waits c =
    let r = c.drawing_of.result in
    let told = c.drawing_of.ensures in
    let seen = c.in_ok-seen.ensures in
    let behind = λ (k : ℕ). requests_behind k c.args.script.now in
    IfOk-weaker r _ _
    (λ drawing facts. subst (λ i. Shows (behind i) drawing.graph) (sym facts.0)
    (drawn c.args.at behind c.in_ok-seen.seen.lines (length c.in_ok-seen.seen.columns.items) drawing.at_column _ c.in_ok-seen.seen.waits drawing.graph
    seen.waits seen.end seen.columns facts.1.0 facts.1.1.0 facts.1.1.1).0)
    (both_ok r _ _ told.at (both_ok r _ _ told.found (both_ok r _ _ told.asked told.end)))

pub returns-clause-arrows : goal.returns-clause-arrows
returns-clause-arrows c =
    let r = c.drawing_of.result in
    let told = c.drawing_of.ensures in
    let seen = c.in_ok-seen.seen in
    IfOk-weaker r _ _
    (λ drawing facts.
    arrows_drawn seen.waits drawing.graph drawing.at_column seen.arrows.items drawing.arrows.items c.in_ok-seen.ensures.arrows facts.0 facts.1.0 facts.1.1)
    (both_ok r _ _ told.asked (both_ok r _ _ told.kept told.arrows))

pub returns-clause-locks : goal.returns-clause-locks
returns-clause-locks c =
    let r = c.drawing_of.result in
    let told = c.drawing_of.ensures in
    let seen = c.in_ok-seen.seen in
    let known = c.in_ok-seen.ensures in
    let behind = λ (k : ℕ). requests_behind k c.args.script.now in
    IfOk-weaker r _ _
    (λ drawing facts. subst (λ i. All (HasLock (behind i)) drawing.arrows.items) (sym facts.0)
    (locks_drawn c.args.at behind seen.lines _ seen.waits seen.arrows.items drawing.arrows.items known.waits known.end facts.1.0 known.locks
    facts.1.1.0 facts.1.1.1))
    (both_ok r _ _ told.at (both_ok r _ _ told.found (both_ok r _ _ told.kept told.locks)))

pub returns-clause-at : goal.returns-clause-at
returns-clause-at c =
    IfOk-weaker c.drawing_of.result _ _ (λ drawing same. same ∙ ap (λ n. unwrap_or c.args.at n) c.in_ok-seen.ensures.lines) c.drawing_of.ensures.at

pub returns-clause-at_column : goal.returns-clause-at_column
returns-clause-at_column c =
    let r = c.drawing_of.result in
    let told = c.drawing_of.ensures in
    let seen = c.in_ok-seen.ensures in
    let behind = λ (k : ℕ). requests_behind k c.args.script.now in
    IfOk-weaker r _ _
    (λ drawing facts.
    (drawn c.args.at behind c.in_ok-seen.seen.lines (length c.in_ok-seen.seen.columns.items) drawing.at_column _ c.in_ok-seen.seen.waits drawing.graph
    seen.waits seen.end seen.columns facts.1.0 facts.1.1.0 facts.1.1.1).1 ∙ sym facts.0)
    (both_ok r _ _ told.at (both_ok r _ _ told.found (both_ok r _ _ told.asked told.end)))

pub returns-clause-found : goal.returns-clause-found
returns-clause-found c =
    let seen = c.in_ok-seen.ensures in
    IfOk-weaker c.drawing_of.result _ _
    (λ drawing found asked. ap (λ n. has_line n c.args.at) (sym seen.lines) ∙ sym seen.passed ∙ found asked) c.drawing_of.ensures.found

pub returns-clause-fault : goal.returns-clause-fault
returns-clause-fault c =
    let seen = c.in_ok-seen.ensures in
    IfErr-weaker c.drawing_of.result _ _
    (λ e why. short_fault c.args.at (length (lines c.args.script.now)) c.in_ok-seen.seen.lines (course c.args.script.now) c.in_ok-seen.seen.waits e
    seen.done seen.lines seen.passed why)
    c.drawing_of.ensures.short

pub returns-clause-ends : goal.returns-clause-ends
returns-clause-ends c = script_ends c.args.script.now

pub returns-in_err-table-clause-lasts : goal.returns-in_err-table-clause-lasts
returns-in_err-table-clause-lasts c = bars_last c.args.script.now

pub returns-in_err-seen-clause-lasts : goal.returns-in_err-seen-clause-lasts
returns-in_err-seen-clause-lasts c = bars_last c.args.script.now

pub returns-clause-lasts : goal.returns-clause-lasts
returns-clause-lasts c = bars_last c.args.script.now

pub returns-clause-named : goal.returns-clause-named
returns-clause-named c =
    let seen = c.in_ok-seen.ensures in
    IfOk-weaker c.drawing_of.result _ _ (λ drawing same. ap (λ v. v.items) same ∙ seen.named ∙ ap line_columns seen.lines) c.drawing_of.ensures.columns

pub returns-clause-lanes : goal.returns-clause-lanes
returns-clause-lanes c = IfOk-weaker c.drawing_of.result _ _ (λ drawing same. same ∙ ap lanes_of c.in_ok-seen.ensures.bars) c.drawing_of.ensures.lanes
