use Rattle.std.proofs.Common.{◌≡◌, ◌<◌, length, arith}
use Rattle.core_store.specs.Layout.{area_of, blocks_in, IsLaidOut}
use Rattle.core_store.proofs.AreaLemmas.{same-blocks, same-sum}
use Rattle.core_store.proofs.Growth.{HasSides-end, room-moved, room-raised}
use Rattle.core_store.proofs.rooms.make_room.Goals as goal

pub returns-in-Some-clause-room : goal.returns-in-Some-clause-room
returns-in-Some-clause-room c =
    room-moved _ c.args.all c.args.areas.now c.move_to.new.areas c.args.job c.in-Some.to c.args.blocks c.move_to.ensures.areas
    c.requires.laid_out c.requires.job c.requires.size (omega arith) c.in-Some.ensures

pub raise-requires-clause-order : goal.raise-requires-clause-order
raise-requires-clause-order c =
    let there : c.args.job < length c.pack-packed.new.areas = omega arith in
    let below = c.pack-packed.ensures.below c.args.job there in
    let had =
    same-blocks c.args.words.now c.pack-packed.new.words c.args.areas.now c.pack-packed.new.areas (omega arith)
    c.pack-packed.ensures.jobs c.requires.laid_out c.pack-packed.ensures.laid_out c.pack-packed.ensures.cores c.args.job
    c.requires.job in
    omega arith

pub raise-requires-clause-room : goal.raise-requires-clause-room
raise-requires-clause-room c =
    let sum : blocks_in c.pack-packed.new.areas ≡ blocks_in c.args.areas.now =
    same-sum c.args.words.now c.pack-packed.new.words c.args.areas.now c.pack-packed.new.areas (omega arith)
    c.pack-packed.ensures.jobs c.requires.laid_out c.pack-packed.ensures.laid_out c.pack-packed.ensures.cores in
    omega arith

pub raise-requires-clause-sides : goal.raise-requires-clause-sides
raise-requires-clause-sides c =
    let there : c.args.job < length c.pack-packed.new.areas = omega arith in
    let had : (area_of c.pack-packed.new.areas c.args.job).blocks ≡ (area_of c.args.areas.now c.args.job).blocks =
    same-blocks c.args.words.now c.pack-packed.new.words c.args.areas.now c.pack-packed.new.areas (omega arith)
    c.pack-packed.ensures.jobs c.requires.laid_out c.pack-packed.ensures.laid_out c.pack-packed.ensures.cores c.args.job
    c.requires.job in
    HasSides-end _ c.pack-packed.new.areas c.args.job _ c.pack-packed.ensures.laid_out there (omega arith) (omega arith)

pub returns-clause-room : goal.returns-clause-room
returns-clause-room c =
    let there : c.args.job < length c.pack-packed.new.areas = omega arith in
    let had : (area_of c.pack-packed.new.areas c.args.job).blocks ≡ (area_of c.args.areas.now c.args.job).blocks =
    same-blocks c.args.words.now c.pack-packed.new.words c.args.areas.now c.pack-packed.new.areas (omega arith)
    c.pack-packed.ensures.jobs c.requires.laid_out c.pack-packed.ensures.laid_out c.pack-packed.ensures.cores c.args.job
    c.requires.job in
    let sum : blocks_in c.pack-packed.new.areas ≡ blocks_in c.args.areas.now =
    same-sum c.args.words.now c.pack-packed.new.words c.args.areas.now c.pack-packed.new.areas (omega arith)
    c.pack-packed.ensures.jobs c.requires.laid_out c.pack-packed.ensures.laid_out c.pack-packed.ensures.cores in
    let laid : IsLaidOut (length c.args.words.now) c.raise.new.areas =
    (let long : length c.pack-packed.new.words ≡ length c.args.words.now = omega arith in rw long at c.raise.ensures.laid_out)
    in
    room-raised _ c.pack-packed.result c.pack-packed.new.areas c.raise.new.areas c.args.job _ _ c.args.blocks
    c.raise.ensures.areas c.pack-packed.ensures.laid_out laid there (omega arith) (omega arith) (omega arith)
    c.pack-packed.ensures.below (omega arith)
