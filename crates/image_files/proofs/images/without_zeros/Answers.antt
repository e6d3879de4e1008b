use Rattle.std.proofs.Common.{◌∙◌, sym}
use Rattle.image_files.proofs.ImageLemmas.{kept_less, kept_more, kept_all}
use Rattle.image_files.proofs.images.without_zeros.Goals as goal

pub loop-word-preserved-then-number-eq0 : goal.loop-word-preserved-then-number-eq0
loop-word-preserved-then-number-eq0 c =
    kept_less c.args.words.now c.loop-word.word-index c.word-item.result c.loop-word.kept.items c.loop-word-test.true c.word-item.is
    (sym c.number.ensures.value ∙ c.if-number-eq0.true) c.loop-word.invariant

pub loop-word-preserved : goal.loop-word-preserved
loop-word-preserved c =
    kept_more c.args.words.now c.loop-word.word-index c.word-item.result c.loop-word.kept.items c.push.new.self.items c.loop-word-test.true
    c.word-item.is (λ e. c.if-number-eq0.false (c.number.ensures.value ∙ e)) c.in_ok-push.ensures.items c.loop-word.invariant

pub returns : goal.returns
returns c = kept_all c.args.words.now c.loop-word.word-index c.loop-word.kept.items c.loop-word-test.false c.loop-word.invariant
