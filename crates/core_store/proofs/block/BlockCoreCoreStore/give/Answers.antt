use Rattle.std.proofs.Common.{◌≡◌, ◌<◌, ◌*◌, refl, length, arith}
use Rattle.core_store.specs.Cores.{core_of, blocks_of}
use Rattle.core_store.specs.BlockMeaning.{meant}
use Rattle.core_store.specs.Layout.{area_of}
use Rattle.core_store.proofs.BlockStore.{IsStore-laid, given-cores, length-core}
use Rattle.core_store.proofs.block.BlockCoreCoreStore.give.Goals as goal

pub returns-clause-core : goal.returns-clause-core
returns-clause-core c =
    let s = c.args.self.now in
    let jobs = s.laid_out.jobs in
    let there : c.args.job < length s.areas = omega arith in
    let had : length (core_of (meant s) c.args.job) ≡ (area_of s.areas c.args.job).blocks * 1024 =
    length-core s.words.items s.areas c.args.job s.laid_out.laid_out there in
    let blocks : (area_of s.areas c.args.job).blocks ≡ blocks_of (meant s) c.args.job = omega arith in
    rw (given-cores s.words.items s.areas c.args.job there, blocks) refl

pub returns-clause-store : goal.returns-clause-store
returns-clause-store c = IsStore-laid _ _ _ _ c.args.self.now.laid_out
