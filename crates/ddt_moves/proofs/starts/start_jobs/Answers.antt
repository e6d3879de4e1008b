use Rattle.std.proofs.Common.{◌<◌, ◌+◌, ◌∙◌, ap, arith, min, sym}
use Rattle.machine.specs.Machine.{S}
use Rattle.machine.specs.Views.{job_view}
use Rattle.ddt_timeline.specs.Views.{history}
use Rattle.ddt_moves.specs.Starts.{is_loaded, jobs_at}
use Rattle.ddt_moves.proofs.StartLemmas.{IsLeft, new-started, other-passed}
use Rattle.ddt_moves.proofs.starts.start_jobs.Goals as goal
use Rattle.ddt_moves.proofs.starts.start_jobs.Goals.{then-is_loaded+in_ok-start, else-is_loaded}

pub loop-number-preserved : goal.loop-number-preserved
loop-number-preserved c =
    let now = c.loop-number in
    let end = min 255 (c.args.lines + 1) in
    let within : now.number < min 255 (c.args.lines + 1) = omega arith in
    let all = jobs_at c.args.lines in
    let before = history c.args.timeline.now in
    let seen = ap (λ (s : S). is_loaded (job_view s.world c.loop-number.number)) (sym c.machine.ensures) ∙ sym c.is_loaded.ensures in
    let left : IsLeft now.number end now.any (history now.timeline) all before =
    record { started = now.invariant.started; some = now.invariant.some; none = now.invariant.none } in
    let next : IsLeft (now.number + 1) end c.if-is_loaded.any (history c.if-is_loaded.timeline) all before =
    elim c.if-is_loaded.branch [
      | then-is_loaded+in_ok-start w ↦
          rw (w.timeline-is, w.any-is)
          (new-started _ _ _ _ (history w.start.new.timeline) _ _ left within (seen ∙ w.if-is_loaded.true) w.in_ok-start.ensures)
      | else-is_loaded w ↦ rw (w.timeline-is, w.any-is) (other-passed _ _ _ _ _ _ left within (seen ∙ w.if-is_loaded.false))
    ] in
    record { started = next.started; some = next.some; none = next.none }
