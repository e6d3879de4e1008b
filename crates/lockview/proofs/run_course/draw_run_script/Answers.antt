use Rattle.std.proofs.Common.{◌≡◌, ◌≤◌, ◌∙◌, Err, IfErr, Ok, Result, ap, length, sym, subst}
use Rattle.std.proofs.lemmas.Result.{IfErr-weaker, IfOk-weaker}
use Rattle.std.specs.Result.{IsErrAnd}
use Rattle.std.specs.Str.Lines.{lines}
use Rattle.lock_bars.proofs.CourseLemmas.{both_ok}
use Rattle.lock_bars.specs.declared.errors.TheConstants.{MOST_LINES}
use Rattle.op_script.specs.ScriptStates.{StateValue}
use Rattle.lockview.specs.Faults.{IsLengthFault, lines_done, script_lines_done}
use Rattle.lockview.proofs.FaultLemmas.{at_within, short_script}
use Rattle.lockview.proofs.run_course.draw_run_script.Goals as goal

pub returns-clause-few : goal.returns-clause-few
returns-clause-few c =
    let r = c.drawing_of.result in
    let told = c.drawing_of.ensures in
    let seen = c.in_ok-seen.ensures in
    IfOk-weaker r _ _
    (λ drawing facts. subst (λ n. n ≤ MOST_LINES) (sym facts.0)
    (at_within c.args.at c.in_ok-seen.seen.lines MOST_LINES c.in_ok-seen.seen.waits seen.few seen.passed facts.1))
    (both_ok r _ _ told.at told.found)

pub returns-clause-length : goal.returns-clause-length
returns-clause-length c =
    let seen = c.in_ok-seen.ensures in
    let served = seen.served ∙ ap (λ (d : StateValue). lines_done d 0 (lines c.args.script.now)) c.in_ok-state.ensures in
    IfErr-weaker c.drawing_of.result _ _
    (λ e why. short_script c.args.at (script_lines_done c.args.config c.args.script.now) (length (lines c.args.script.now)) c.in_ok-seen.seen.lines
    c.in_ok-seen.seen.waits e served seen.passed why)
    c.drawing_of.ensures.short

-- an error is handed on as it is
same_err : {X E : Type 0} (r : Result X E) (e : E) (P : E → Type 0) → IsErrAnd r (λ x. x ≡ e) → P e → IfErr r P
same_err (Ok x) e P is p = tt
same_err (Err x) e P is p = subst P (sym is) p

pub returns-in_err-seen-clause-length : goal.returns-in_err-seen-clause-length
returns-in_err-seen-clause-length c =
    let all = lines c.args.script.now in
    let e = c.in_err-seen.field-0.0 in
    same_err c.from_residual-in_err-seen.result e
    (IsLengthFault c.args.at (script_lines_done c.args.config c.args.script.now) (length all))
    c.from_residual-in_err-seen.ensures.1
    (subst (λ (d : StateValue). IsLengthFault c.args.at (lines_done d 0 all) (length all) e) c.in_ok-state.ensures
    c.in_err-seen.ensures.fault)
