use Rattle.std.proofs.Common.{ap, get_or, arith}
use Rattle.macro_expansion.specs.Rounds.{Parting}
use Rattle.macro_expansion.proofs.Parts.{angles_grow, others_grow, goes_on}
use Rattle.macro_expansion.proofs.irp.parted.Goals as goal

pub loop-c-preserved : goal.loop-c-preserved
loop-c-preserved c =
    let list = c.args.list.now in
    let i = c.loop-c.c-index in
    let p = c.loop-c.parting in
    record {
      same =
          goes_on c.args.by_character c.args.round.now p c.take.new.self list i _ c.loop-c-test.true
          c.in_ok-take.ensures c.loop-c.invariant.same;
      angles =
          omega (
            arith,
            ap (λ (q : Parting). q.angles) c.in_ok-take.ensures,
            angles_grow c.args.by_character c.args.round.now (get_or list i 0) p,
            c.loop-c.invariant.angles,
          );
      others =
          omega (
            arith,
            ap (λ (q : Parting). q.others) c.in_ok-take.ensures,
            others_grow c.args.by_character c.args.round.now (get_or list i 0) p,
            c.loop-c.invariant.others,
          );
    }
