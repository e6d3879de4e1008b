use Rattle.std.proofs.Common.{◌≡◌, ◌<◌, ◌+◌, subst, ◌∷◌, drop, length, List, arith, lit<}
use Rattle.std.proofs.lemmas.Grind.{common_steps}
use Rattle.lock_queue.specs.declared.want.Want.{Want}
use Rattle.lock_table.specs.Changing.{AreSound, IsAltering}
use Rattle.lock_table.proofs.Writing.{altering_more, later_sound}
use Rattle.lock_table.proofs.Faults.{rest_is}
use Rattle.lock_table.proofs.change.alter_all.Goals as goal

pub alter-requires : goal.alter-requires
alter-requires g c =
    let i = c.loop-c.c-index in
    let changes = c.args.changes.now in
    let lt : i < length changes = omega (arith, c.loop-c-test.true) in
    let rest : drop i changes ≡ c.c-item.result ∷ drop (i + 1) changes = rest_is changes i c.c-item.result lt c.c-item.is in
    let sound : AreSound c.loop-c.store c.loop-c.keys c.args.job (c.c-item.result ∷ drop (i + 1) changes) =
    subst (λ (l : List Want). AreSound c.loop-c.store c.loop-c.keys c.args.job l) rest c.loop-c.invariant.sound in
    (lit< tt, (lit< tt, (c.loop-c.invariant.between, sound.each 0 c.c-item.result (omega arith))))

pub loop-c-preserved : goal.loop-c-preserved
loop-c-preserved g c =
    let i = c.loop-c.c-index in
    let changes = c.args.changes.now in
    let lt : i < length changes = omega (arith, c.loop-c-test.true) in
    let rest : drop i changes ≡ c.c-item.result ∷ drop (i + 1) changes = rest_is changes i c.c-item.result lt c.c-item.is in
    let sound : AreSound c.loop-c.store c.loop-c.keys c.args.job (c.c-item.result ∷ drop (i + 1) changes) =
    subst (λ (l : List Want). AreSound c.loop-c.store c.loop-c.keys c.args.job l) rest c.loop-c.invariant.sound in
    let altered : IsAltering c.args.store.now c.loop-c.store c.args.keys.now c.loop-c.keys c.args.job changes (c.c-item.result ∷ drop (i + 1) changes) =
    subst (λ (l : List Want). IsAltering c.args.store.now c.loop-c.store c.args.keys.now c.loop-c.keys c.args.job changes l)
    rest c.loop-c.invariant.altered in
    record {
      between = c.alter.ensures.between;
      sound =
          later_sound c.loop-c.store c.alter.new.store c.loop-c.keys c.alter.new.keys c.args.job c.c-item.result
          c.alter.ensures.altered (drop (i + 1) changes) sound;
      altered =
          altering_more c.loop-c.store c.alter.new.store c.loop-c.keys c.alter.new.keys c.args.job c.c-item.result
          c.alter.ensures.altered c.args.store.now c.args.keys.now
          changes (drop (i + 1) changes) sound.apart altered;
    }

pub returns-clause-altered : goal.returns-clause-altered
returns-clause-altered g c = grind (arith, common_steps)
