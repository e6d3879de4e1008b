use Rattle.std.proofs.Common.{◌<◌, ◌∙◌, refl, sym, length, arith}
use Rattle.core_store.specs.AreaWords.{core-at}
use Rattle.core_store.proofs.BlockStore.{IsStore-laid, same-store}
use Rattle.core_store.proofs.block.BlockCoreCoreStore.window.Goals as goal

pub returns : goal.returns
returns c =
    let s = c.args.self.now in
    let jobs = s.laid_out.jobs in
    let there : c.args.job < length s.areas = omega arith in (
      (refl, λ w. same-store _ _ _ _ _ _),
      record {
        writes_back = tt;
        value = c.slice_mut.ensures.value ∙ sym (core-at s.words.items s.areas c.args.job there);
        store = IsStore-laid _ _ _ _ s.laid_out;
      },
    )
