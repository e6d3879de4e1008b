use Rattle.std.proofs.Common.{◌≡◌, ◌∙◌, sym, ap, subst, arith, length}
use Rattle.job_moves.specs.Moves.{is_clear}
use Rattle.job_orders.specs.Endings.{ending_in, rests}
use Rattle.job_orders.specs.Finding.{AreClear, HasCircle, HasEnds, circle_at, met_at}
use Rattle.job_orders.specs.Reports.{IsReason}
use Rattle.job_orders.proofs.Found.{clear-more, first-circle, first-ends}
use Rattle.job_orders.proofs.looking.report_on.Goals as goal

pub loop-position-init : goal.loop-position-init
loop-position-init c = record {
  ready = c.in_ok-machine.ensures;
  clear = λ i low. absurd (omega (arith, low));
  circle = first-circle (circle_at c.args.orders.now.start.count)
      (met_at c.args.orders.now.start c.args.orders.now.tables c.args.kept.now.states.keys c.args.kept.now.origins.items);
  ends = first-ends (rests c.args.orders.now.start.count) (ending_in c.args.orders.now.start.count)
      (met_at c.args.orders.now.start c.args.orders.now.tables c.args.kept.now.states.keys c.args.kept.now.origins.items)
      c.new-ends.result.items c.new-ends.ensures.items;
}

pub loop-position-preserved : goal.loop-position-preserved
loop-position-preserved c = record {
  ready = c.in_ok-show.ensures.ready;
  clear = clear-more c.args.orders.now.start.count
      (met_at c.args.orders.now.start c.args.orders.now.tables c.args.kept.now.states.keys c.args.kept.now.origins.items)
      c.loop-position.position c.show.new.machine c.in_ok-show.ensures.shown
      (ap (λ n. is_clear n c.show.new.machine) (sym c.count-count.ensures.count) ∙ c.in_default.ensures) c.loop-position.invariant.clear;
  circle = c.in_ok-look_for_circle.ensures;
  ends = c.in_ok-look_for_end.ensures;
}

pub returns-in-Some : goal.returns-in-Some
returns-in-Some c = record {
  place = c.loop-position.position;
  low = omega arith;
  moves = c.in_ok-moves.ensures;
  reason = subst (λ v. IsReason v c.in-Some.reason) c.in_ok-show.ensures.shown c.in-Some.ensures;
  clear = c.loop-position.invariant.clear;
}

pub returns : goal.returns
returns c =
    let end : c.loop-position.position ≡ length c.args.kept.now.states.keys = omega arith in
    record {
      states = omega arith;
      clear = subst (AreClear c.args.orders.now.start.count (met_at c.args.orders.now.start c.args.orders.now.tables c.args.kept.now.states.keys c.args.kept.now.origins.items))
          end c.loop-position.invariant.clear;
      circle = subst (λ n. HasCircle c.args.orders.now.start.count
          (met_at c.args.orders.now.start c.args.orders.now.tables c.args.kept.now.states.keys c.args.kept.now.origins.items)
          n c.loop-position.circle) end c.loop-position.invariant.circle;
      ends = subst (λ n. HasEnds c.args.orders.now.start.count
          (met_at c.args.orders.now.start c.args.orders.now.tables c.args.kept.now.states.keys c.args.kept.now.origins.items)
          n c.loop-position.ends.items) end c.loop-position.invariant.ends;
    }
