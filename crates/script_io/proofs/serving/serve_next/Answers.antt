use Rattle.script_io.proofs.ServeLemmas.{cut_stops}
use Rattle.script_io.proofs.serving.serve_next.Goals as goal

pub returns-in-Err-clause-stops : goal.returns-in-Err-clause-stops
returns-in-Err-clause-stops g c = cut_stops _ _ _ _ (g.S.Session.follow c.args.session.now) _ c.in-Ok.ensures.reads.1 c.in-Err.ensures.cuts
