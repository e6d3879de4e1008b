use Rattle.std.specs.Prelude.{Some, string_bytes}
use Rattle.std.proofs.Common.{rules}
use Rattle.std.proofs.lemmas.Result.{IfOk-weaker}
use Rattle.ten.specs.Reports.{IsCircleOf}
use Rattle.ten.proofs.Adding.{made_so}
use Rattle.ten.proofs.notes.report_circle.Goals as goal

pub returns-in-Ok-Some : goal.returns-in-Ok-Some
returns-in-Ok-Some c =
    made_so c.circle_line.result string_bytes c.args.errors.now c.say_made.new.self (IsCircleOf c.args.tick c.args.machine.now.world.requests c.args.number)
    (IfOk-weaker c.circle_line.result _ _
    (λ text line. record {
      circle = Some c.as_slice.result.now;
      found = (search rules, search rules);
      is_line = line;
    })
    c.circle_line.ensures)
    c.say_made.ensures.made c.say_made.ensures.lost
