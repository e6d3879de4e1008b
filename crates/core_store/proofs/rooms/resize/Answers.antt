use Rattle.std.proofs.Common.{◌≡◌, ◌+◌, ◌*◌, ◌<◌, ◌≤◌, ◌∙◌, sym, ap, [], length, get_or, arith}
use Rattle.std.specs.Prelude.{slice_set}
use Rattle.std.proofs.lemmas.List.{length-set}
use Rattle.core_store.specs.declared.areas.Area.{Area}
use Rattle.core_store.specs.AreaWords.{core-at}
use Rattle.core_store.specs.Cores.{resized_words}
use Rattle.core_store.specs.Layout.{area_of, area_words, blocks_in, cores_in, IsLaidOut}
use Rattle.core_store.proofs.AreaLemmas.{area-set, same-blocks, same-sum, sum-set}
use Rattle.core_store.proofs.Moved.{cut, grown, IsLaidOut-cut}
use Rattle.core_store.proofs.rooms.resize.Goals as goal
use Rattle.core_store.proofs.rooms.resize.Goals.{then-blocks-had, else-blocks-had}

pub clear-requires-clause-within : goal.clear-requires-clause-within
clear-requires-clause-within c =
    let areas = c.make_room.new.areas in
    let a : Area = record { base = (area_of areas c.args.job).base; blocks = c.args.blocks } in
    let there : c.args.job < length areas = omega arith in
    let long : length (slice_set areas c.args.job a) ≡ length areas = length-set areas c.args.job a in
    let within : a.base * 1024 + a.blocks * 1024 ≤ length c.args.words.now =
    rw (area-set areas c.args.job a there) at (c.make_room.ensures.room.within c.args.job (omega arith)) in
    omega arith

pub returns-clause-cores : goal.returns-clause-cores
returns-clause-cores c =
    elim c.if-blocks-had.branch [
      | then-blocks-had w ↦
          let words = w.make_room.new.words in
          let areas = w.make_room.new.areas in
          let job = c.args.job in
          let long : length words ≡ length c.args.words.now = omega arith in
          let there : job < length areas = omega arith in
          let laid : IsLaidOut (length words) areas = rw long w.make_room.ensures.laid_out in
          let room : IsLaidOut (length words)
          (slice_set areas job (record { base = (area_of areas job).base; blocks = c.args.blocks })) =
          rw long w.make_room.ensures.room in
          let had : (area_of areas job).blocks ≡ (area_of c.args.areas.now job).blocks =
          same-blocks c.args.words.now words c.args.areas.now areas long w.make_room.ensures.jobs c.requires.laid_out
          w.make_room.ensures.laid_out w.make_room.ensures.cores job c.requires.job in
          let core : area_words words (area_of areas job) ≡ area_words c.args.words.now (area_of c.args.areas.now job) =
          sym (core-at words areas job there) ∙ ap (λ cs. get_or cs job []) w.make_room.ensures.cores
          ∙ core-at c.args.words.now c.args.areas.now job c.requires.job in
          rw (w.words-is, w.areas-is) (
          grown words w.clear.new.words areas job (area_of c.args.areas.now job).blocks c.args.blocks (sym had) there (omega arith) (omega arith) laid room
          w.clear.ensures.zeros w.clear.ensures.before w.clear.ensures.behind
          ∙ ap (λ cs. slice_set cs job (resized_words (area_words words (area_of areas job)) c.args.blocks)) w.make_room.ensures.cores
          ∙ ap (λ ws. slice_set (cores_in c.args.words.now c.args.areas.now) job (resized_words ws c.args.blocks)) core)
      | else-blocks-had w ↦
          rw (w.words-is, w.areas-is) (
          cut c.args.words.now c.args.areas.now c.args.job c.args.blocks c.requires.job (omega arith) c.requires.laid_out
          (IsLaidOut-cut (length c.args.words.now) c.args.areas.now c.args.job c.args.blocks c.requires.laid_out c.requires.job (omega arith) c.requires.some))
    ]

pub returns-clause-blocks : goal.returns-clause-blocks
returns-clause-blocks c =
    elim c.if-blocks-had.branch [
      | then-blocks-had w ↦
          let words = w.make_room.new.words in
          let areas = w.make_room.new.areas in
          let long : length words ≡ length c.args.words.now = omega arith in
          let there : c.args.job < length areas = omega arith in
          let had : (area_of areas c.args.job).blocks ≡ (area_of c.args.areas.now c.args.job).blocks =
          same-blocks c.args.words.now words c.args.areas.now areas long w.make_room.ensures.jobs c.requires.laid_out
          w.make_room.ensures.laid_out w.make_room.ensures.cores c.args.job c.requires.job in
          let same : blocks_in areas ≡ blocks_in c.args.areas.now =
          same-sum c.args.words.now words c.args.areas.now areas long w.make_room.ensures.jobs c.requires.laid_out
          w.make_room.ensures.laid_out w.make_room.ensures.cores in
          let sum = sum-set areas c.args.job (record { base = (area_of areas c.args.job).base; blocks = c.args.blocks }) there in
          rw w.areas-is (omega arith)
      | else-blocks-had w ↦
          let sum = sum-set c.args.areas.now c.args.job (record { base = (area_of c.args.areas.now c.args.job).base; blocks = c.args.blocks }) c.requires.job in
          rw w.areas-is (omega arith)
    ]
