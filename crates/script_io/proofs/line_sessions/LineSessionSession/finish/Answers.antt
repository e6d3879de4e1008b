use Rattle.std.proofs.Common.{refl, sym}
use Rattle.std.proofs.lemmas.Bool.{eqb-false}
use Rattle.script_io.proofs.LineLemmas.{finished_after, finished_with}
use Rattle.script_io.proofs.line_sessions.LineSessionSession.finish.Goals as goal

pub returns-in-None-ending : goal.returns-in-None-ending
returns-in-None-ending g c =
    let s = c.args.self.now in
    let some = c.if-is_empty.ensures in
    finished_after (g.S.LineService.follow_lines s.service) (g.S.LineService.follow_lines c.hand_over.new.service)
    c.end_lines-in-None-ending.result _ _ _ _ _ _ _ _ s.line.no_newline c.in-None.is
    (eqb-false _ _ (sym some)) refl c.as_slice-line.ensures.value (rw c.in-None-ending.is at c.in_ok-hand_over.ensures) c.end_lines-in-None-ending.ensures

pub returns-in-Some-ending : goal.returns-in-Some-ending
returns-in-Some-ending g c =
    let s = c.args.self.now in
    let some = c.if-is_empty.ensures in
    finished_with (g.S.LineService.follow_lines s.service) (g.S.LineService.follow_lines c.hand_over.new.service) _ _ _ _ _ _ _
    c.in-Some-ending.ending s.line.no_newline c.in-None.is
    (eqb-false _ _ (sym some)) refl c.as_slice-line.ensures.value (rw c.in-Some-ending.is at c.in_ok-hand_over.ensures)
