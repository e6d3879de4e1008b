use Rattle.std.proofs.Common.{◌-◌, ◌∙◌, arith, length}
use Rattle.std.proofs.lemmas.List.{take_rest}
use Rattle.lock_queue.proofs.Texts.{lapped}
use Rattle.lock_queue.proofs.name.copy_lapping.Goals as goal

pub returns : goal.returns
returns c =
    let text = c.args.text.now in
    let at = length text - c.args.count in
    lapped text c.args.bytes.now _ _ c.args.count at _ (omega arith) (omega arith) (omega arith)
    c.copy_from_slice.ensures.after (c.copy_from_slice-2.ensures.after ∙ take_rest text at)
