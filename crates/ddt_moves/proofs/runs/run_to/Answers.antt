use Rattle.std.proofs.Common.{◌∙◌, sym, subst, List}
use Rattle.std.proofs.lemmas.Bool.{false_from_ne_true, false≢true, or_parts}
use Rattle.ddt_timeline.specs.Histories.{machine_of}
use Rattle.ddt_timeline.specs.Runs.{IsRun}
use Rattle.ddt_timeline.specs.Views.{history}
use Rattle.ddt_timeline.specs.declared.stops.WatchedStop.{WatchedStop}
use Rattle.ddt_moves.specs.Visits.{counters}
use Rattle.ddt_moves.proofs.CounterLemmas.{none_counted}
use Rattle.ddt_moves.proofs.EndLemmas.{counted_by_stop, end_by_stop, not_at_grant}
use Rattle.ddt_moves.proofs.VisitLemmas.{none_count}
use Rattle.ddt_moves.proofs.WatchLemmas.{no_facts}
use Rattle.ddt_moves.proofs.runs.run_to.Goals as goal

pub returns-clause-end : goal.returns-clause-end
returns-clause-end c =
    let none = sym c.needs_watch.ensures ∙ c.if-needs_watch.false in
    end_by_stop _ c.args.stops.now c.args.list.now c.args.most c.in_ok-ran.ran c.of.result
    (subst (λ (l : List WatchedStop). IsRun (machine_of (history c.args.timeline.now)) l c.args.most c.in_ok-ran.ran) c.as_mut_slice.ensures.value
    c.in_ok-ran.ensures.run)
    (no_facts _ c.args.list.now c.in_ok-ran.ran (or_parts _ _ (or_parts _ _ (or_parts _ _ none).0).0).0
    (or_parts _ _ (or_parts _ _ (or_parts _ _ none).0).0).1)
    (false_from_ne_true _ (λ by_watch. false≢true (c.in_ok-ran.ensures.watched by_watch)))
    c.of.ensures.made c.of.ensures.cause c.of.ensures.cut

pub returns-clause-counted : goal.returns-clause-counted
returns-clause-counted c =
    let none = sym c.needs_watch.ensures ∙ c.if-needs_watch.false in
    counted_by_stop (machine_of (history c.args.timeline.now)) (counters (history c.args.timeline.now) c.args.list.now) c.args.stops.now
    c.args.list.now c.args.most c.in_ok-ran.ran c.of.result
    (subst (λ (l : List WatchedStop). IsRun (machine_of (history c.args.timeline.now)) l c.args.most c.in_ok-ran.ran) c.as_mut_slice.ensures.value
    c.in_ok-ran.ensures.run)
    (none_counted (machine_of (history c.args.timeline.now)) (counters (history c.args.timeline.now) c.args.list.now) c.in_ok-ran.ran
    (none_count (history c.args.timeline.now) c.args.list.now (or_parts _ _ none).1))
    (false_from_ne_true _ (λ by_watch. false≢true (c.in_ok-ran.ensures.watched by_watch)))
    c.of.ensures.made c.of.ensures.cause

pub returns-clause-lines : goal.returns-clause-lines
returns-clause-lines c =
    not_at_grant _ c.args.stops.now c.args.most c.in_ok-ran.ran c.of.result _
    (subst (λ (l : List WatchedStop). IsRun (machine_of (history c.args.timeline.now)) l c.args.most c.in_ok-ran.ran) c.as_mut_slice.ensures.value
    c.in_ok-ran.ensures.run)
    c.of.ensures.made c.of.ensures.cause
