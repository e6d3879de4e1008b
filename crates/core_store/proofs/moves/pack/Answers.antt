use Rattle.std.proofs.Common.{◌≡◌, ◌+◌, ◌∙◌, ap, length, arith}
use Rattle.std.specs.Prelude.{slice_set}
use Rattle.std.proofs.lemmas.Grind.{common_steps}
use Rattle.std.proofs.lemmas.List.{length-set}
use Rattle.core_store.specs.declared.areas.Area.{Area}
use Rattle.core_store.specs.Layout.{area_of, IsLaidOut}
use Rattle.core_store.proofs.AreaLemmas.{area-set}
use Rattle.core_store.proofs.Packing.{ArePacked-next, ArePacked-skip, IsLaidOut-next, blocks_from}
use Rattle.core_store.proofs.Packing.{blocks_from-end, blocks_from-next, blocks_from-skip, sum-moved}
use Rattle.core_store.proofs.moves.pack.Goals as goal
use Rattle.core_store.proofs.moves.pack.Goals.{in-Some, in_default}

pub loop-block-preserved : goal.loop-block-preserved
loop-block-preserved c =
    elim c.match-job_at.branch [
      | in-Some w ↦
          let size = length c.loop-block.words in
          let areas = c.loop-block.areas in
          let job = w.in-Some.job in
          let found = w.in-Some.ensures.found in
          let inv = c.loop-block.invariant in
          let a : Area = record { base = c.loop-block.packed; blocks = (area_of areas job).blocks } in
          let set = slice_set areas job a in
          let moved : w.move_to.new.areas ≡ set = w.move_to.ensures.areas in
          let here : area_of set job ≡ a = area-set areas job a found.0 in
          let laid : IsLaidOut size set =
          IsLaidOut-next size areas job c.loop-block.block c.loop-block.packed inv.laid_out inv.packed found.0 found.1 found.2
          in
          let long : length c.match-job_at.words ≡ size = grind (arith, common_steps) in
          let more : c.match-job_at.packed ≡ c.loop-block.packed + (area_of areas job).blocks = grind (arith, common_steps, moved, here) in
          let next = blocks_from-next size areas job c.loop-block.block c.loop-block.packed inv.laid_out inv.packed found.0 found.1 found.2 in
          let same = sum-moved areas job c.loop-block.packed found.0 in
          let rest = inv.rest in
          record {
            jobs = ap length (w.areas-is ∙ moved) ∙ length-set areas job a ∙ inv.jobs;
            laid_out = rw (w.areas-is, moved, long) laid;
            cores = rw (w.words-is, w.areas-is) (w.move_to.ensures.cores ∙ inv.cores);
            packed =
                rw (w.areas-is, moved, more)
                (ArePacked-next size areas job c.loop-block.block c.loop-block.packed inv.laid_out inv.packed found.0 found.1
                found.2);
            rest = rw (w.areas-is, moved, more) (omega arith);
          }
      | in_default w ↦
          let inv = c.loop-block.invariant in
          let none = c.job_at.ensures.none (grind (arith, common_steps)) in
          let skip = blocks_from-skip c.loop-block.areas c.loop-block.block none in
          rw (w.words-is, w.areas-is, w.packed-is) (record {
            jobs = inv.jobs;
            laid_out = inv.laid_out;
            cores = inv.cores;
            packed = ArePacked-skip _ c.loop-block.areas c.loop-block.block c.loop-block.packed inv.laid_out inv.packed none;
            rest = omega arith;
          })
    ]

pub returns-clause-packed : goal.returns-clause-packed
returns-clause-packed c =
    let inv = c.loop-block.invariant in
    let rest = inv.rest in
    let end : c.loop-block.block ≡ c.args.all = omega arith in
    let none : blocks_from c.args.all c.loop-block.areas ≡ 0 = blocks_from-end _ c.args.all c.loop-block.areas inv.laid_out (omega arith) in
    let last : blocks_from c.loop-block.block c.loop-block.areas ≡ 0 = rw end none in
    omega arith
