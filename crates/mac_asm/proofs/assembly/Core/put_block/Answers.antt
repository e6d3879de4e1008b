use Rattle.std.proofs.Common.{ap, sym, ◌∙◌, Some}
use Rattle.std.specs.Prelude.{replicate, option_map}
use Rattle.mac_asm.proofs.PutLemmas.{some_put}
use Rattle.mac_asm.proofs.assembly.Core.put_block.Goals as goal

pub returns-in_ok-put_zeros-in-Some : goal.returns-in_ok-put_zeros-in-Some
returns-in_ok-put_zeros-in-Some c =
    some_put c.args.self.now.cells c.args.address.now _ (replicate c.in-Some.count 0)
    (ap (option_map (λ n. replicate n 0)) (sym (sym c.in-Some.is ∙ c.in_ok-block_len.ensures)))
    ∙ ap Some (sym c.in_ok-put_zeros-in-Some.ensures)
