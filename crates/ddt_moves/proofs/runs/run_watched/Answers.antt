use Rattle.std.proofs.Common.{◌∙◌, refl, subst, List}
use Rattle.std.proofs.lemmas.Result.{IfOk-weaker}
use Rattle.ddt_timeline.specs.Histories.{machine_of}
use Rattle.ddt_timeline.specs.Runs.{IsRun}
use Rattle.ddt_timeline.specs.Views.{history}
use Rattle.ddt_timeline.specs.declared.stops.WatchedStop.{WatchedStop}
use Rattle.ddt_moves.specs.Visits.{counters}
use Rattle.ddt_moves.proofs.CounterLemmas.{counted}
use Rattle.ddt_moves.proofs.EndLemmas.{both_ok, counted_by_stop, counted_by_watch, end_by_stop, end_by_watch, lines_of, not_at_grant}
use Rattle.ddt_moves.proofs.VisitLemmas.{are-counters}
use Rattle.ddt_moves.proofs.WatchLemmas.{watched}
use Rattle.ddt_moves.proofs.runs.run_watched.Goals as goal

pub returns-then-ran-clause-end : goal.returns-then-ran-clause-end
returns-then-ran-clause-end c =
    let run =
    subst (λ (l : List WatchedStop). IsRun (machine_of (history c.args.timeline.now)) l c.args.most c.in_ok-ran.ran)
    c.as_mut_slice.ensures.value c.in_ok-ran.ensures.run in
    IfOk-weaker c.ended_by.result _ _
    (λ end ended.
    end_by_watch _ c.args.stops.now c.args.list.now c.args.most c.in_ok-ran.ran c.run.new.watch end run
    (watched _ c.args.list.now c.in_ok-watch.watch c.run.new.watch c.in_ok-ran.ran c.in_ok-watch.ensures.list
    (c.in_ok-ran.ensures.asked refl))
    c.if-ran.true ended)
    c.ended_by.ensures.end

pub returns-clause-end : goal.returns-clause-end
returns-clause-end c =
    let run =
    subst (λ (l : List WatchedStop). IsRun (machine_of (history c.args.timeline.now)) l c.args.most c.in_ok-ran.ran)
    c.as_mut_slice.ensures.value c.in_ok-ran.ensures.run in
    end_by_stop _ c.args.stops.now c.args.list.now c.args.most c.in_ok-ran.ran c.of.result run
    (watched _ c.args.list.now c.in_ok-watch.watch c.run.new.watch c.in_ok-ran.ran c.in_ok-watch.ensures.list
    (c.in_ok-ran.ensures.asked refl)).run
    c.if-ran.false c.of.ensures.made c.of.ensures.cause c.of.ensures.cut

pub returns-then-ran-clause-counted : goal.returns-then-ran-clause-counted
returns-then-ran-clause-counted c =
    let run =
    subst (λ (l : List WatchedStop). IsRun (machine_of (history c.args.timeline.now)) l c.args.most c.in_ok-ran.ran)
    c.as_mut_slice.ensures.value c.in_ok-ran.ensures.run in
    IfOk-weaker c.ended_by.result _ _
    (λ end ended.
    counted_by_watch (machine_of (history c.args.timeline.now)) (counters (history c.args.timeline.now) c.args.list.now) c.args.stops.now
    c.args.list.now c.in_ok-ran.ran c.run.new.watch end
    (counted _ c.args.list.now (counters (history c.args.timeline.now) c.args.list.now) c.in_ok-watch.watch c.run.new.watch
    c.in_ok-ran.ran (are-counters (history c.args.timeline.now) c.args.list.now) c.in_ok-watch.ensures.list
    c.in_ok-watch.ensures.counters (c.in_ok-ran.ensures.asked refl))
    c.if-ran.true ended)
    c.ended_by.ensures.end

pub returns-clause-counted : goal.returns-clause-counted
returns-clause-counted c =
    let run =
    subst (λ (l : List WatchedStop). IsRun (machine_of (history c.args.timeline.now)) l c.args.most c.in_ok-ran.ran)
    c.as_mut_slice.ensures.value c.in_ok-ran.ensures.run in
    counted_by_stop (machine_of (history c.args.timeline.now)) (counters (history c.args.timeline.now) c.args.list.now) c.args.stops.now
    c.args.list.now c.args.most c.in_ok-ran.ran c.of.result run
    (counted _ c.args.list.now (counters (history c.args.timeline.now) c.args.list.now) c.in_ok-watch.watch c.run.new.watch
    c.in_ok-ran.ran (are-counters (history c.args.timeline.now) c.args.list.now) c.in_ok-watch.ensures.list
    c.in_ok-watch.ensures.counters (c.in_ok-ran.ensures.asked refl)).run
    c.if-ran.false c.of.ensures.made c.of.ensures.cause

pub returns-then-ran-clause-lines : goal.returns-then-ran-clause-lines
returns-then-ran-clause-lines c =
    let run =
    subst (λ (l : List WatchedStop). IsRun (machine_of (history c.args.timeline.now)) l c.args.most c.in_ok-ran.ran)
    c.as_mut_slice.ensures.value c.in_ok-ran.ensures.run in
    both_ok c.ended_by.result _ _ _ c.ended_by.ensures.end c.ended_by.ensures.lines
    (λ end ended lines is none.
    lines
    ∙ lines_of (machine_of (history c.args.timeline.now)) c.args.list.now c.in_ok-ran.ran c.run.new.watch end _
    (watched _ c.args.list.now c.in_ok-watch.watch c.run.new.watch c.in_ok-ran.ran c.in_ok-watch.ensures.list
    (c.in_ok-ran.ensures.asked refl))
    c.if-ran.true ended)

pub returns-clause-lines : goal.returns-clause-lines
returns-clause-lines c =
    not_at_grant _ c.args.stops.now c.args.most c.in_ok-ran.ran c.of.result _
    (subst (λ (l : List WatchedStop). IsRun (machine_of (history c.args.timeline.now)) l c.args.most c.in_ok-ran.ran) c.as_mut_slice.ensures.value
    c.in_ok-ran.ensures.run)
    c.of.ensures.made c.of.ensures.cause
