use Rattle.std.proofs.Common.{refl}
use Rattle.script_io.proofs.LineLemmas.{line_refused}
use Rattle.script_io.proofs.line_sessions.LineSession.refuse_line.Goals as goal

pub returns-clause-follows : goal.returns-clause-follows
returns-clause-follows g c =
    let s = c.args.self.now in
    λ bytes more none long. line_refused (g.S.LineService.follow_lines s.service) _ _ _ _ more _ _ _ c.in-Ok.ending
    s.line.no_newline none long c.requires.goes_on refl c.in-Ok.ensures
