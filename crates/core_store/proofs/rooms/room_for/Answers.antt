use Rattle.std.proofs.Common.{◌≡◌, arith}
use Rattle.core_store.specs.Layout.{blocks_in}
use Rattle.core_store.proofs.AreaLemmas.{same-sum}
use Rattle.core_store.proofs.Growth.{hole-behind}
use Rattle.core_store.proofs.rooms.room_for.Goals as goal

pub returns-in-None-clause-hole : goal.returns-in-None-clause-hole
returns-in-None-clause-hole c =
    let packed = c.pack.ensures.packed in
    let sum : blocks_in c.pack.new.areas ≡ blocks_in c.args.areas.now =
    same-sum c.args.words.now c.pack.new.words c.args.areas.now c.pack.new.areas (omega arith) c.pack.ensures.jobs
    c.requires.laid_out c.pack.ensures.laid_out c.pack.ensures.cores in
    hole-behind c.pack.new.areas c.args.all c.pack.result c.args.blocks c.pack.ensures.below (omega arith)
