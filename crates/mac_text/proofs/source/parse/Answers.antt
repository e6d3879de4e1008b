use Rattle.std.proofs.Common.{◌≡◌, ◌+◌, ◌-◌, ◌≤◌, [], Err, Ok, length, drop, get_or, refl, ap, subst, sym, ◌∙◌, arith}
use Rattle.std.specs.Prelude.{slice_set}
use Rattle.std.proofs.lemmas.Bool.{eqb-true}
use Rattle.std.specs.Str.Lines.{lines}
use Rattle.mac_text.proofs.SourceLemmas.{source_begins, source_goes_on, source_ends, source_fails, source_done}
use Rattle.mac_text.proofs.SourceLemmas.{lines_of_nothing, one_longer, placed, there, line_there, lines_behind, with_lines}
use Rattle.mac_text.specs.Lines.{is_ascii, is_end, lines_from, radix_after}
use Rattle.mac_text.proofs.source.parse.Goals as goal

pub loop-rest-init : goal.loop-rest-init
loop-rest-init c = (
  omega arith,
  omega (arith, ap length c.new-lines.ensures.items),
  (λ h. sym c.is_ascii-is_known_ascii.ensures ∙ h),
  source_begins c.args.source.now c.new-lines.result.items c.new-lines.ensures.items,
  ap (λ l. drop (length l) (lines c.args.source.now)) c.new-lines.ensures.items,
)

pub returns-in-Err-Syntax-clause-program : goal.returns-in-Err-Syntax-clause-program
returns-in-Err-Syntax-clause-program c =
    let front = c.loop-rest.lines.items in
    let at : c.len-at.result ≡ length c.loop-rest.lines.items = omega arith in
    let is = rw c.in-Err-Syntax.field-0-is at c.in-Err-Syntax.ensures in
    source_fails front c.loop-rest.radix (length front + 1) (lines c.loop-rest.rest.now) (lines c.split_line.result.1.now)
    c.split_line.result.0.now _ c.split_line.ensures.line is c.loop-rest.invariant.3
    ∙ ap (λ n. Err (n + 1)) (sym at)
    ∙ ap Err (sym c.fault.ensures.line)

pub returns-in-Err-Syntax-clause-position : goal.returns-in-Err-Syntax-clause-position
returns-in-Err-Syntax-clause-position c =
    let front = c.loop-rest.lines.items in
    let at : c.fault.result.line - 1 ≡ length front = omega (arith, c.fault.ensures.line) in
    let text = line_there (lines c.args.source.now) (length front) c.split_line.result.0.now (lines c.split_line.result.1.now)
    (c.loop-rest.invariant.4 ∙ c.split_line.ensures.line) in
    rw (at, text) (omega (arith, c.fault.ensures.within))

pub returns-then-is_end-clause-program : goal.returns-then-is_end-clause-program
returns-then-is_end-clause-program c =
    let front = c.loop-rest.lines.items in
    let line = c.read_line.new.out in
    let empty = c.in_ok-add_line.ensures in
    let at : c.len-at.result ≡ length c.loop-rest.lines.items = omega arith in
    let all = placed front c.add_line.new.lines.items empty.0 line c.len-at.result at empty.1 in
    let here = c.index-in-loop-rest.ensures ∙ there front c.add_line.new.lines.items empty.0 line c.len-at.result _ at empty.1 in
    let ends = ap is_end (sym here) ∙ sym c.is_end.ensures ∙ c.if-is_end.true in
    source_ends front c.loop-rest.radix (length front + 1) (lines c.loop-rest.rest.now) (lines c.split_line.result.1.now)
    c.split_line.result.0.now line _ c.split_line.ensures.line c.in-Ok.ensures ends c.loop-rest.invariant.3
    ∙ ap Ok (sym (c.of.ensures ∙ all))

pub loop-rest-preserved : goal.loop-rest-preserved
loop-rest-preserved c =
    let front = c.loop-rest.lines.items in
    let line = c.read_line.new.out in
    let empty = c.in_ok-add_line.ensures in
    let at : c.len-at.result ≡ length c.loop-rest.lines.items = omega arith in
    let all = placed front c.add_line.new.lines.items empty.0 line c.len-at.result at empty.1 in
    let now = slice_set c.add_line.new.lines.items c.len-at.result line in
    let longer = one_longer front now line all in
    let here = c.index-in-loop-rest.ensures ∙ there front c.add_line.new.lines.items empty.0 line c.len-at.result _ at empty.1 in
    let before = c.index.ensures ∙ there front c.add_line.new.lines.items empty.0 line c.len-at.result _ at empty.1 in
    let goes = ap is_end (sym here) ∙ sym c.is_end.ensures ∙ c.if-is_end.false in
    let radix = c.radix_after-radix.ensures.value ∙ ap (λ l. radix_after l c.loop-rest.radix) before in
    let goes_on =
    source_goes_on front c.loop-rest.radix (length front + 1) c.radix_after-radix.result (length now + 1)
    (lines c.loop-rest.rest.now) (lines c.split_line.result.1.now) c.split_line.result.0.now line _ c.split_line.ensures.line
    c.in-Ok.ensures goes radix (ap (λ n. n + 1) longer) c.loop-rest.invariant.3 in (
      c.radix_after-radix.ensures.most,
      omega (arith, longer),
      (λ h. c.split_line.ensures.back is_ascii (c.loop-rest.invariant.2 h)),
      ap (λ p. with_lines p (lines_from c.radix_after-radix.result (length now + 1) (lines c.split_line.result.1.now))) all
          ∙ goes_on,
      lines_behind (lines c.args.source.now) (length front) (length now) c.split_line.result.0.now (lines c.split_line.result.1.now)
          longer (c.loop-rest.invariant.4 ∙ c.split_line.ensures.line),
    )

pub returns-clause-program : goal.returns-clause-program
returns-clause-program c =
    source_done c.loop-rest.lines.items c.loop-rest.radix (length c.loop-rest.lines.items + 1) (lines c.loop-rest.rest.now) _
    (lines_of_nothing c.loop-rest.rest.now (eqb-true _ _ (sym c.loop-rest-test.ensures))) c.loop-rest.invariant.3
    ∙ ap Ok (sym c.of-2.ensures)
