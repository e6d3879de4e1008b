use Rattle.std.proofs.Common.{◌≡◌, map, arith}
use Rattle.std.proofs.lemmas.Grind.{common_steps}
use Rattle.core_store.specs.Layout.{raised}
use Rattle.core_store.proofs.Moved.{IsLaidOut-raised, raised-cores}
use Rattle.core_store.proofs.moves.raise.Goals as goal

pub returns-clause-laid_out : goal.returns-clause-laid_out
returns-clause-laid_out c =
    let all : c.loop-area.areas ≡ map (raised c.args.from c.args.by) c.args.areas.now = grind (arith, common_steps, c.loop-area.invariant.done) in
    rw all
    (IsLaidOut-raised _ c.args.from c.args.end c.args.by c.args.areas.now c.requires.laid_out c.requires.some c.requires.room
    c.requires.sides c.requires.below)

pub returns-clause-cores : goal.returns-clause-cores
returns-clause-cores c =
    let all : c.loop-area.areas ≡ map (raised c.args.from c.args.by) c.args.areas.now = grind (arith, common_steps, c.loop-area.invariant.done) in
    rw all
    (raised-cores c.args.words.now c.copy_within.new.self c.args.areas.now c.args.from c.args.end c.args.by
    c.copy_within.ensures.len c.requires.laid_out c.requires.some c.requires.order c.requires.room c.requires.sides
    c.requires.below c.copy_within.ensures.by_index.0 c.copy_within.ensures.by_index.1)
