use Rattle.std.proofs.Common.{codes, decimal}
use Rattle.lockcheck_program.proofs.TextLemmas.{five_pieces}
use Rattle.lockcheck_program.proofs.refusals.push_refusal.Goals as goal

pub returns : goal.returns
returns c =
    five_pieces c.args.out.now.items _ _ _ _ (codes "lockcheck: line ") (decimal c.args.number) (codes ": ") c.args.words.now (codes "\n")
    c.in_ok-extend_from_slice.ensures.items c.in_ok-push_decimal.ensures c.in_ok-extend_from_slice-2.ensures.items c.in_ok-push_words.ensures
