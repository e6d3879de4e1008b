use Rattle.std.proofs.Common.{◌+◌, refl}
use Rattle.std.proofs.lemmas.Result.{on_ok_weaker}
use Rattle.script_io.proofs.LineLemmas.{line_came}
use Rattle.script_io.proofs.line_sessions.LineSession.take_whole.Goals as goal

pub returns-clause-follows : goal.returns-clause-follows
returns-clause-follows g c =
    let s = c.args.self.now in
    on_ok_weaker c.hand_over.result
    (λ taken more. line_came (g.S.LineService.follow_lines s.service) (g.S.LineService.follow_lines c.hand_over.new.service) _ _ _ _ _ more
    s.number (s.number + 1) s.ending c.hand_over.new.ending c.requires.empty c.requires.no_newline c.requires.goes_on refl
    c.without_return-line.ensures taken)
    c.hand_over.ensures
