use Rattle.std.proofs.Common.{subst, sym}
use Rattle.script_io.specs.Serves.{Serves}
use Rattle.script_io.proofs.endings.serve_script.Goals as goal

pub returns-clause-serves : goal.returns-clause-serves
returns-clause-serves g c = subst (Serves (g.S.Session.follow c.args.session.now) _ _ _ _) (sym c.answer_of.ensures) c.serve_session.ensures.serves
