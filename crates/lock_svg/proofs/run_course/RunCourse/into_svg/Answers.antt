use Rattle.std.proofs.lemmas.Result.{IfOk-weaker}
use Rattle.lock_svg.proofs.run_course.RunCourse.into_svg.Goals as goal

pub returns-in-Ok : goal.returns-in-Ok
returns-in-Ok g c = IfOk-weaker c.svg_of.result _ _ (λ page is. (c.in-Ok.drawing, is)) c.svg_of.ensures
