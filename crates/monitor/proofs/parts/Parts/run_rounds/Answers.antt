use Rattle.std.proofs.Common.{◌≡◌, ◌∙◌, refl, arith, Bool, not, nat_eq}
use Rattle.machine.specs.Machine.{after}
use Rattle.machine.specs.Rounds.{rounds}
use Rattle.monitor_laws.proofs.Rounding.{rounds-left, runs-left, safe-after}
use Rattle.monitor.proofs.parts.Parts.run_rounds.Goals as goal

pub loop-left-preserved : goal.loop-left-preserved
loop-left-preserved g c =
    let ticking : Bool = not (nat_eq g.row.TICKING 0) in
    let made = c.run_next-some.result.made in
    let made_so : c.tick_if.new.self ≡ after (rounds made ticking) c.loop-left.self = c.tick_if.ensures ∙ c.run_next-some.ensures.state in
    let rest = rounds-left c.loop-left.left made ticking c.loop-left.self c.tick_if.new.self c.run_next-some.ensures.most made_so in
    let runs = runs-left c.loop-left.left made _ ticking c.loop-left.self c.tick_if.new.self c.run_next-some.ensures.most made_so refl in
    record {
      safe = rw made_so (safe-after (rounds made ticking) c.loop-left.self c.loop-left.invariant.safe);
      few = omega (arith, c.loop-left.invariant.few, c.run_next-some.ensures.count, c.count_idle.ensures, c.run_next-some.ensures.most);
      rest = rest ∙ c.loop-left.invariant.rest;
      count = omega (arith, runs, c.loop-left.invariant.count, c.run_next-some.ensures.count, c.count_idle.ensures);
    }
