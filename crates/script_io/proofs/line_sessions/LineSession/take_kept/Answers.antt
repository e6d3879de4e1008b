use Rattle.std.proofs.Common.{◌+◌, ◌∙◌, ap, refl}
use Rattle.std.specs.Str.Lines.{strip_carriage_return}
use Rattle.script_io.proofs.LineLemmas.{line_ended}
use Rattle.script_io.proofs.line_sessions.LineSession.take_kept.Goals as goal

pub returns-clause-follows : goal.returns-clause-follows
returns-clause-follows g c =
    let s = c.args.self.now in
    λ more. line_ended (g.S.LineService.follow_lines s.service) (g.S.LineService.follow_lines c.hand_over.new.service) _ _ _ _ _ more
    s.number (s.number + 1) s.ending c.hand_over.new.ending s.line.no_newline c.requires.goes_on refl
    (c.without_return-line.ensures ∙ ap strip_carriage_return c.as_slice.ensures.value) c.clear.ensures
    c.in_ok-hand_over.ensures
