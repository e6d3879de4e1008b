use Rattle.std.proofs.Common.{◌≡◌, ◌++◌, ◌-◌, ◌+◌, take, arith, ap, ◌∙◌, map}
use Rattle.std.proofs.lemmas.Grind.{common_steps}
use Rattle.macro_output.specs.Listings.{is_hidden, lines_of, lines_text, all_texts, expanded_from, remark_text}
use Rattle.macro_output.proofs.LineSteps.{line-step, line-next, line-last, lines-end, take-of-none, take-no-more}
use Rattle.macro_output.proofs.listings.push_lines.Goals.{else-loop-number-test, then-loop-number-test+in_default, then-loop-number-test+in-Some+in_ok-push_own_line+in_ok-push_expanded+in_ok-remarks+then-number-listing}
use Rattle.macro_output.proofs.listings.push_lines.Goals as goal

pub loop-number-preserved : goal.loop-number-preserved
loop-number-preserved c =
    let number = c.loop-number.number in
    line-next c.args.listing.now c.args.parts.now number (take (4294967295 - (number + 1)) c.next.new.self) c.loop-number.rows.now _ _ _ _ _ _ _ c.if-number-listing.false c.part_rows.ensures.later c.in_ok-push_expanded.ensures.left c.in_ok-remarks.ensures.left
    (line-step c.args.listing.now c.args.parts.now number (4294967295 - number) (4294967295 - (number + 1)) c.in-Some.text.now
    c.loop-number.lines c.next.new.self c.loop-number.rows.now c.part_rows.result.0.now _ _ c.is_hidden-is_hidden.result _ _ _ _ _
    (omega arith) c.in-Some.ensures (c.is_hidden-is_hidden.ensures ∙ ap (λ r. is_hidden r number) c.as_slice.ensures.value) c.part_rows.ensures.own c.in_ok-push_own_line.ensures
    c.in_ok-push_expanded.ensures.text c.in_ok-remarks.ensures.text c.loop-number.invariant)

pub returns : goal.returns
returns c =
    let number = c.loop-number.number in
    let left : c.loop-number-test.out.items ++ all_texts (map remark_text c.loop-number-test.remarks.now)
    ≡ c.args.out.now.items ++ lines_text c.args.listing.now c.args.parts.now 1 (take 4294967294 (lines_of c.args.source.now)) c.args.rows.now
    (expanded_from c.args.listing.now 0 c.args.expanded_rows.now) (map remark_text c.args.remarks.now) =
    elim c.loop-number-test.branch [
      | else-loop-number-test w ↦ rw (w.out-is, w.remarks-is) (lines-end c.args.listing.now c.args.parts.now number (4294967295 - number) c.loop-number.lines c.loop-number.rows.now _ _ _ _ (take-no-more _ _ (omega (arith, w.loop-number-test.false))) c.loop-number.invariant)
      | then-loop-number-test+in_default w ↦ rw (w.out-is, w.remarks-is) (lines-end c.args.listing.now c.args.parts.now number (4294967295 - number) c.loop-number.lines c.loop-number.rows.now _ _ _ _ (take-of-none _ _ w.in_default.ensures) c.loop-number.invariant)
      | then-loop-number-test+in-Some+in_ok-push_own_line+in_ok-push_expanded+in_ok-remarks+then-number-listing w ↦
          rw (w.out-is, w.remarks-is) (line-last c.args.listing.now c.args.parts.now number (take (4294967295 - (number + 1)) w.next.new.self) c.loop-number.rows.now _ _ _ _ _ w.if-number-listing.true w.in_ok-remarks.ensures.left
          (line-step c.args.listing.now c.args.parts.now number (4294967295 - number) (4294967295 - (number + 1)) w.in-Some.text.now
          c.loop-number.lines w.next.new.self c.loop-number.rows.now w.part_rows.result.0.now _ _ w.is_hidden-is_hidden.result _ _ _ _ _
          (omega arith) w.in-Some.ensures (w.is_hidden-is_hidden.ensures ∙ ap (λ r. is_hidden r number) w.as_slice.ensures.value) w.part_rows.ensures.own w.in_ok-push_own_line.ensures
          w.in_ok-push_expanded.ensures.text w.in_ok-remarks.ensures.text c.loop-number.invariant))
    ] in
    grind (arith, common_steps, left)
