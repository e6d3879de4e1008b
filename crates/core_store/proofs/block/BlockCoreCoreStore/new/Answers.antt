use Rattle.std.proofs.Common.{◌≡◌, ◌*◌, ◌∙◌, sym, length}
use Rattle.core_store.proofs.BlockStore.{IsBlockCore-new}
use Rattle.core_store.proofs.block.BlockCoreCoreStore.new.Goals as goal

pub invariant_of-result : goal.invariant_of-result
invariant_of-result c =
    let size : length c.in_ok-words.words.items ≡ c.args.blocks * 1024 = sym c.in_ok-words.words.ok.0 ∙ c.in_ok-words.ensures.len in
    record { laid_out = IsBlockCore-new _ c.args.blocks size c.requires.most }
