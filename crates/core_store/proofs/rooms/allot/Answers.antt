use Rattle.std.proofs.Common.{◌≡◌, ◌<◌, ◌∙◌, ap, length, replicate, ◌*◌, arith}
use Rattle.std.specs.Prelude.{slice_set}
use Rattle.core_store.specs.declared.areas.Area.{Area}
use Rattle.core_store.specs.Layout.{area_of, blocks_in, IsLaidOut}
use Rattle.core_store.proofs.AreaLemmas.{IsLaidOut-hole, same-blocks, same-sum, sum-set}
use Rattle.core_store.proofs.Moved.{placed}
use Rattle.core_store.proofs.rooms.allot.Goals as goal

pub returns-clause-cores : goal.returns-clause-cores
returns-clause-cores c =
    let words = c.room_for-base.new.words in
    let areas = c.room_for-base.new.areas in
    let a : Area = record { base = c.room_for-base.result; blocks = c.args.blocks } in
    let long : length words ≡ length c.args.words.now = omega arith in
    let there : c.args.job < length areas = omega arith in
    let laid : IsLaidOut (length words) areas = rw long c.room_for-base.ensures.laid_out in
    placed words c.clear.new.words areas c.args.job a there (omega arith) laid
    (IsLaidOut-hole (length words) c.args.all areas c.args.job a laid there (omega arith) c.requires.some c.room_for-base.ensures.hole)
    c.clear.ensures.zeros c.clear.ensures.before c.clear.ensures.behind
    ∙ ap (λ cs. slice_set cs c.args.job (replicate (c.args.blocks * 1024) 0)) c.room_for-base.ensures.cores

pub returns-clause-blocks : goal.returns-clause-blocks
returns-clause-blocks c =
    let words = c.room_for-base.new.words in
    let areas = c.room_for-base.new.areas in
    let long : length words ≡ length c.args.words.now = omega arith in
    let there : c.args.job < length areas = omega arith in
    let none : (area_of areas c.args.job).blocks ≡ (area_of c.args.areas.now c.args.job).blocks =
    same-blocks c.args.words.now words c.args.areas.now areas long c.room_for-base.ensures.jobs c.requires.laid_out
    c.room_for-base.ensures.laid_out c.room_for-base.ensures.cores c.args.job c.requires.job in
    let same : blocks_in areas ≡ blocks_in c.args.areas.now =
    same-sum c.args.words.now words c.args.areas.now areas long c.room_for-base.ensures.jobs c.requires.laid_out
    c.room_for-base.ensures.laid_out c.room_for-base.ensures.cores in
    let sum = sum-set areas c.args.job (record { base = c.room_for-base.result; blocks = c.args.blocks }) there in
    omega arith
