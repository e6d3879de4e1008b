use Rattle.std.proofs.Common.{ap, sym, ◌∙◌, Some}
use Rattle.mac_asm.specs.Filled.{put_from}
use Rattle.mac_asm.proofs.PutLemmas.{added_put}
use Rattle.mac_asm.proofs.assembly.Core.put_text.Goals as goal

pub returns : goal.returns
returns c =
    added_put c.args.self.now.cells c.args.address.now _ c.clear.new.self.items c.push_text.new.words.items c.clear.ensures.items
    (rw c.if-not-branch.false at c.in_ok-push_text.ensures)
    ∙ ap Some (ap (put_from c.args.self.now.cells c.args.address.now) (sym c.as_slice.ensures.value) ∙ sym c.in_ok-put.ensures)
