use Rattle.image_files.proofs.ImageLemmas.{rise_step, rise_low, rise_high, rise_end}
use Rattle.image_files.proofs.images.rises.Goals as goal

pub loop-word-preserved : goal.loop-word-preserved
loop-word-preserved c =
    rise_step c.args.words.now c.loop-word.least c.loop-word.word-index c.word-item.result c.loop-word-test.true c.word-item.is
    c.if-word-least.false c.if-word-ge-ADDRESSES.false c.loop-word.invariant

pub returns-then-word-least : goal.returns-then-word-least
returns-then-word-least c =
    rise_low c.args.words.now c.loop-word.least c.loop-word.word-index c.word-item.result c.loop-word-test.true c.word-item.is
    c.if-word-least.true c.loop-word.invariant

pub returns-then-word-ge-ADDRESSES : goal.returns-then-word-ge-ADDRESSES
returns-then-word-ge-ADDRESSES c =
    rise_high c.args.words.now c.loop-word.least c.loop-word.word-index c.word-item.result c.loop-word-test.true c.word-item.is
    c.if-word-ge-ADDRESSES.true c.loop-word.invariant

pub returns : goal.returns
returns c = rise_end c.args.words.now c.loop-word.least c.loop-word.word-index c.loop-word-test.false c.loop-word.invariant
