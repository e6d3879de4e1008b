use Rattle.std.proofs.Common.{arith}
use Rattle.queue_script.proofs.ItemLemmas.{alone-end, alone-more, all-behind}
use Rattle.queue_script.proofs.locks.options_behind.Goals as goal

pub returns-then-count-text : goal.returns-then-count-text
returns-then-count-text c = λ name is. rw c.none.ensures (alone-end _ _ name c.if-count-text.true c.requires.apart is)

pub returns-then-text-count-eq32 : goal.returns-then-text-count-eq32
returns-then-text-count-eq32 c =
    λ name is.
    rw c.none-then-text-count-eq32.ensures
    (alone-more _ _ name (omega (arith, c.requires.within, c.if-count-text.false)) c.if-text-count-eq32.true c.requires.apart is)

pub returns : goal.returns
returns c =
    all-behind c.args.text.now c.args.count _ (omega (arith, c.requires.within, c.if-count-text.false)) c.if-text-count-ne47.false c.requires.apart
    c.front_options.ensures
