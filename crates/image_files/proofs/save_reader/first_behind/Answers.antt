use Rattle.std.proofs.Common.{◌∙◌, ◌+◌, sym, refl}
use Rattle.image_files.proofs.SaveLemmas.{zero_step, other_step, zeros_end}
use Rattle.image_files.proofs.save_reader.first_behind.Goals as goal

pub loop-i-preserved : goal.loop-i-preserved
loop-i-preserved c = λ start number.
    c.loop-i.invariant start number
    ∙ zero_step start number (number + c.loop-i.i) (number + (c.loop-i.i + 1)) c.args.words.now c.loop-i.i c.index-words-i.result refl refl
    c.loop-i-test.true c.index-words-i.is (sym c.number.ensures.value ∙ c.if-number-ne0.false)

pub returns-then-number-ne0 : goal.returns-then-number-ne0
returns-then-number-ne0 c = (
  c.loop-i-test.true,
  λ start number.
      c.loop-i.invariant start number
      ∙ other_step start (number + c.loop-i.i) c.args.words.now c.loop-i.i c.index-words-i.result c.loop-i-test.true c.index-words-i.is
      (λ e. c.if-number-ne0.true (c.number.ensures.value ∙ e)),
)

pub returns : goal.returns
returns c = λ start number.
    c.loop-i.invariant start number ∙ zeros_end start (number + c.loop-i.i) c.args.words.now c.loop-i.i c.loop-i-test.false
