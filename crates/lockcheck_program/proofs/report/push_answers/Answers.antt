use Rattle.std.proofs.Common.{◌<◌, ◌++◌, ◌∙◌, ap, length, subst}
use Rattle.std.specs.Str.Lines.{lines}
use Rattle.lockcheck_orders.specs.Programs.{no_line}
use Rattle.lockcheck_program.specs.Reports.{answered, answers_to, line_answers}
use Rattle.lockcheck_program.proofs.TextLemmas.{more_made}
use Rattle.lockcheck_program.proofs.report.push_answers.Goals as goal

pub loop-i-preserved : goal.loop-i-preserved
loop-i-preserved c =
    let script = lines c.args.script.now in
    let all = c.in-Some.all in
    let sofar = c.loop-i.out.items in
    more_made (line_answers script all) c.args.programs.now c.loop-i.i no_line c.args.out.now.items sofar _ (subst (λ l. c.loop-i.i < length l) c.lines-i-end.ensures.value c.loop-i-test.true)
    c.loop-i.invariant
    (c.in_ok-push_answered.ensures
    ∙ ap (λ a. sofar ++ answered script c.number-number.result a) (c.as_slice.ensures.value ∙ c.in_ok-answers.ensures)
    ∙ ap (λ n. sofar ++ answered script n (answers_to all n)) c.number-number.ensures.value)
