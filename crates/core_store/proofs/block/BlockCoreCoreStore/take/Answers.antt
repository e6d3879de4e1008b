use Rattle.std.proofs.Common.{◌≡◌, ◌*◌, ◌<◌, ap, length, sym, ◌∙◌, arith}
use Rattle.core_store.specs.Layout.{area_of}
use Rattle.core_store.proofs.BlockStore.{IsStore-laid, length-core}
use Rattle.core_store.proofs.block.BlockCoreCoreStore.take.Goals as goal

pub returns-then-blocks-self-clause-store : goal.returns-then-blocks-self-clause-store
returns-then-blocks-self-clause-store c = IsStore-laid _ _ _ _ c.args.self.now.laid_out

pub returns-clause-store : goal.returns-clause-store
returns-clause-store c = IsStore-laid _ _ _ _ c.args.self.now.laid_out

pub allot-requires-clause-none : goal.allot-requires-clause-none
allot-requires-clause-none c =
    let s = c.args.self.now in
    let jobs = s.laid_out.jobs in
    let there : c.args.job < length s.areas = omega arith in
    let long : (area_of s.areas c.args.job).blocks * 1024 ≡ 0 =
    sym (length-core s.words.items s.areas c.args.job s.laid_out.laid_out there) ∙ ap length c.requires.none_yet in
    omega arith
