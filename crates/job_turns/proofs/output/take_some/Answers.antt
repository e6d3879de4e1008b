use Rattle.std.proofs.Common.{◌≡◌, ◌<◌, ◌++◌, ◌∙◌, ap, subst, drop, arith}
use Rattle.word36.specs.declared.sizes.TheConstants.{LINES, TAKEN_AT_ONCE}
use Rattle.tty_lines.specs.Rings.{output_of, with_output}
use Rattle.job_turns.proofs.Taking.{taken_of, taken-length, taken-lines, taken-text}
use Rattle.job_turns.proofs.output.take_some.Goals as goal

pub returns-clause-text : goal.returns-clause-text
returns-clause-text c =
    let left : c.taken.new.self ≡ with_output c.args.lines.now c.args.line (drop TAKEN_AT_ONCE (output_of c.args.lines.now c.args.line)) =
    subst (λ m. c.taken.new.self ≡ with_output c.args.lines.now m (drop TAKEN_AT_ONCE (output_of c.args.lines.now m))) c.number.ensures.value c.in-Ok.ensures.ok in
    let low : c.args.line < LINES = subst (λ m. m < LINES) c.number.ensures.value c.number.ensures.below in
    taken-text c.args.lines.now c.args.line TAKEN_AT_ONCE c.args.text.now.items _ c.extend_from_slice.new.self.items c.taken.new.self
    (omega (arith, c.in-Ok.ensures.lines.count, low))
    (taken_of c.args.lines.now c.args.line c.number.result TAKEN_AT_ONCE _ low c.number.ensures.value c.in-Ok.ensures.answer) left
    (c.in_ok-extend_from_slice.ensures.items ∙ ap (λ l. c.args.text.now.items ++ l) c.as_slice.ensures.value)

pub returns-clause-lines : goal.returns-clause-lines
returns-clause-lines c =
    let left : c.taken.new.self ≡ with_output c.args.lines.now c.args.line (drop TAKEN_AT_ONCE (output_of c.args.lines.now c.args.line)) =
    subst (λ m. c.taken.new.self ≡ with_output c.args.lines.now m (drop TAKEN_AT_ONCE (output_of c.args.lines.now m))) c.number.ensures.value c.in-Ok.ensures.ok in
    let low : c.args.line < LINES = subst (λ m. m < LINES) c.number.ensures.value c.number.ensures.below in
    taken-lines c.args.lines.now c.args.line _ c.taken.new.self (omega (arith, c.in-Ok.ensures.lines.count, low)) left

pub returns-clause-fewer : goal.returns-clause-fewer
returns-clause-fewer c =
    let left : c.taken.new.self ≡ with_output c.args.lines.now c.args.line (drop TAKEN_AT_ONCE (output_of c.args.lines.now c.args.line)) =
    subst (λ m. c.taken.new.self ≡ with_output c.args.lines.now m (drop TAKEN_AT_ONCE (output_of c.args.lines.now m))) c.number.ensures.value c.in-Ok.ensures.ok in
    let low : c.args.line < LINES = subst (λ m. m < LINES) c.number.ensures.value c.number.ensures.below in
    taken-length c.args.lines.now c.args.line TAKEN_AT_ONCE c.taken.new.self (omega (arith, c.in-Ok.ensures.lines.count, low)) left
