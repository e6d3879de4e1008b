use Rattle.std.proofs.Common.{arith}
use Rattle.queue_script.proofs.ItemLemmas.{plain-end, plain-more}
use Rattle.queue_script.proofs.WantLemmas.{takes-plain}
use Rattle.queue_script.proofs.locks.take_in_text.Goals as goal

pub returns-then-count-text : goal.returns-then-count-text
returns-then-count-text c =
    takes-plain _ _ _ _ _ _ _ _ _
    (rw c.requires.text
    (rw c.between_blanks.ensures (rw c.spelled.ensures (plain-end _ _ (λ e. omega arith) c.if-count-text.true c.requires.named))))
    c.store_plain.ensures

pub returns-then-text-count-eq32 : goal.returns-then-text-count-eq32
returns-then-text-count-eq32 c =
    takes-plain _ _ _ _ _ _ _ _ _
    (rw c.requires.text (rw c.between_blanks-then-text-count-eq32.ensures (rw c.spelled-then-text-count-eq32.ensures
    (plain-more _ _ (λ e. omega arith) (omega arith) c.if-text-count-eq32.true c.requires.named))))
    c.store_plain-then-text-count-eq32.ensures
