use Rattle.std.proofs.Common.{◌∙◌, ℕ, List, ap, length, refl, sym}
use Rattle.std.specs.Prelude.{◌==◌}
use Rattle.machine.specs.declared.sizes.TheConstants.{MOST_TAKES}
use Rattle.machine.specs.declared.event.Answer.{Answer}
use Rattle.ddt_timeline.specs.Views.{history}
use Rattle.ddt_moves.specs.Terminals.{text_in}
use Rattle.ddt_moves.proofs.TerminalLemmas.{all-pushed, no-takes-left, no-text, take-gives-none, take-gives-text}
use Rattle.ddt_moves.proofs.terminals.take_line.Goals as goal

pub loop-init : goal.loop-init
loop-init c = record { happened = refl; text = refl }

pub loop-preserved : goal.loop-preserved
loop-preserved c =
    take-gives-text c.loop.counter MOST_TAKES c.args.line (history c.loop.timeline) (history c.make.new.self)
    (history c.args.timeline.now) c.loop.bytes.items c.loop-character.bytes.items c.args.bytes.now.items c.in-Text.taken _
    c.loop.invariant c.loop-test.true c.in_ok-taken.ensures.happened c.in_ok-taken.ensures.answer c.in-Text.is
    (ap (λ (l : List ℕ). length l == 0) (sym c.as_slice.ensures.value) ∙ sym c.is_empty.ensures ∙ c.if-is_empty.false)
    (all-pushed _ _ _ _ _ c.loop-character.invariant c.loop-character-test.false c.as_slice-character-items.ensures.value)

pub returns-after-loop : goal.returns-after-loop
returns-after-loop c =
    let all = no-takes-left c.loop.counter MOST_TAKES c.args.line _ _ _ _ c.loop.invariant c.loop-test.false in
    record { happened = all.happened; text = all.text }

pub returns-in_default : goal.returns-in_default
returns-in_default c =
    let all =
    take-gives-none c.loop.counter MOST_TAKES c.args.line (history c.loop.timeline) (history c.make.new.self)
    (history c.args.timeline.now) c.loop.bytes.items c.args.bytes.now.items _ c.loop.invariant
    c.loop-test.true c.in_ok-taken.ensures.happened c.in_ok-taken.ensures.answer (no-text _ c.in_default.not-Text) in
    record { happened = all.happened; text = all.text }

pub returns-then-is_empty : goal.returns-then-is_empty
returns-then-is_empty c =
    let all =
    take-gives-none c.loop.counter MOST_TAKES c.args.line (history c.loop.timeline) (history c.make.new.self)
    (history c.args.timeline.now) c.loop.bytes.items c.args.bytes.now.items _ c.loop.invariant
    c.loop-test.true c.in_ok-taken.ensures.happened c.in_ok-taken.ensures.answer
    (ap (λ (a : Answer). length (text_in a) == 0) c.in-Text.is
    ∙ ap (λ (l : List ℕ). length l == 0) (sym c.as_slice.ensures.value) ∙ sym c.is_empty.ensures ∙ c.if-is_empty.true) in
    record { happened = all.happened; text = all.text }
