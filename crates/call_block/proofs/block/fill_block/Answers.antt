use Rattle.std.proofs.Common.{◌+◌, ◌*◌, arith, sym, ◌∙◌}
use Rattle.ka_state.proofs.LegalLemmas.{legal_within}
use Rattle.call_block.proofs.block.fill_block.Goals as goal

pub word-second-requires : goal.word-second-requires
word-second-requires g c =
    legal_within _ c.number-address.result (2 + 3 * c.left-count.result) _ (sym c.are_legal.ensures ∙ c.if-not-are_legal.false) (omega arith) (omega arith)

pub read_wants-requires-clause-legal : goal.read_wants-requires-clause-legal
read_wants-requires-clause-legal g c =
    legal_within _ c.number-address.result (2 + 3 * c.left-count.result) _ (sym c.are_legal.ensures ∙ c.if-not-are_legal.false) (omega arith) (omega arith)
