use Rattle.std.proofs.Common.{◌≡◌, ◌+◌, ◌-◌, ◌*◌, ◌≤◌, length, refl, arith}
use Rattle.std.specs.Prelude.{slice_set}
use Rattle.std.proofs.lemmas.Grind.{common_steps}
use Rattle.std.proofs.lemmas.List.{length-set}
use Rattle.core_store.specs.Layout.{area_of}
use Rattle.core_store.proofs.AreaLemmas.{area-set}
use Rattle.core_store.proofs.Moved.{moved}
use Rattle.core_store.proofs.moves.move_to.Goals as goal

pub copy_within-requires-clause-dest_in_bounds : goal.copy_within-requires-clause-dest_in_bounds
copy_within-requires-clause-dest_in_bounds c =
    let old = area_of c.args.areas.now c.args.job in
    let long : length (slice_set c.args.areas.now c.args.job (record { base = c.args.to; blocks = old.blocks })) ≡ length c.args.areas.now = length-set _ _ _ in
    let room : c.args.to * 1024 + old.blocks * 1024 ≤ length c.args.words.now =
    rw (area-set c.args.areas.now c.args.job (record { base = c.args.to; blocks = old.blocks }) c.requires.job) at
    (c.requires.next.within c.args.job (omega arith)) in
    grind (arith, common_steps, room)

pub returns-clause-cores : goal.returns-clause-cores
returns-clause-cores c =
    let old = area_of c.args.areas.now c.args.job in
    let many : old.base * 1024 + old.blocks * 1024 - old.base * 1024 ≡ old.blocks * 1024 = omega arith in
    let parts = rw many at c.copy_within.ensures.by_index in
    moved c.args.words.now c.copy_within.new.self c.args.areas.now c.args.job c.args.to _ refl c.requires.job
    c.copy_within.ensures.len c.requires.laid_out c.requires.next parts.0 parts.1 parts.2
