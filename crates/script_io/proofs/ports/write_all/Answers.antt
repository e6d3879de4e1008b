use Rattle.script_io.proofs.PortLemmas.{front_follows, within_rest}
use Rattle.script_io.proofs.ports.write_all.Goals as goal

pub loop-at-preserved : goal.loop-at-preserved
loop-at-preserved g c =
    let w = c.in_ok-at.ensures.writes in
    record {
      within = within_rest _ _ _ c.loop-at.invariant.within w.1;
      grown = front_follows _ _ _ _ _ _ c.loop-at.invariant.grown w.2;
      sound = w.3;
    }
