use Rattle.std.proofs.Common.{◌≡◌, ◌+◌, ◌∙◌, is_none, true, false, arith, rules}
use Rattle.std.proofs.lemmas.Bool.Decides.{nat_tests}
use Rattle.std.proofs.lemmas.Grind.{common_steps}
use Rattle.std.specs.Str.Lines.{lines}
use Rattle.op_script.specs.RunScripts.{line_effect}
use Rattle.lockview.specs.Faults.{lines_done}
use Rattle.lockview.proofs.FaultLemmas.{done_end, done_last, done_next}
use Rattle.lockview.proofs.run_course.watch_run.Goals as goal

pub loop-line-preserved : goal.loop-line-preserved
loop-line-preserved c =
    let d = c.loop-line.state in
    let n = c.loop-line.count in
    let line = c.in-Some.line.now in
    let goes : is_none (line_effect (n + 1) d line).ending ≡ true = first_of (search rules, grind (arith, common_steps)) in
    let left : c.watch_line.new.state ≡ (line_effect (n + 1) d line).state = first_of (search rules, grind (arith, common_steps)) in
    record {
      few = omega arith;
      seen = first_of (search rules, grind (arith, common_steps));
      all = first_of (search rules, grind (arith, common_steps));
      served =
          done_next d c.watch_line.new.state n line c.loop-line.lines c.next.new.self (lines_done c.args.state.now 0 (lines c.args.script.now))
          c.in-Some.ensures goes left c.loop-line.invariant.served;
      passed = first_of (search rules, grind (arith, common_steps), grind (arith, nat_tests));
    }

pub returns-then-not-branch-clause-served : goal.returns-then-not-branch-clause-served
returns-then-not-branch-clause-served c =
    let d = c.loop-line.state in
    let n = c.loop-line.count in
    let line = c.in-Some.line.now in
    let ends : is_none (line_effect (n + 1) d line).ending ≡ false = first_of (search rules, grind (arith, common_steps)) in
    let seen : c.watch_line.new.seen.lines ≡ n = first_of (search rules, grind (arith, common_steps)) in
    seen
    ∙ done_last d n line c.loop-line.lines c.next.new.self (lines_done c.args.state.now 0 (lines c.args.script.now)) c.in-Some.ensures ends
    c.loop-line.invariant.served

pub returns-clause-served : goal.returns-clause-served
returns-clause-served c =
    c.loop-line.invariant.seen
    ∙ done_end c.loop-line.state c.loop-line.count c.loop-line.lines (lines_done c.args.state.now 0 (lines c.args.script.now))
    c.in_default.ensures c.loop-line.invariant.served
