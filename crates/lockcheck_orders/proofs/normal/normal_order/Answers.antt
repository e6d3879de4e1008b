use Rattle.std.proofs.Common.{◌∙◌, ◌<◌, ◌≤◌, ap, length, arith, List, ℕ}
use Rattle.lockcheck_orders.specs.Placing.{place_in, request_at, in_order}
use Rattle.lockcheck_orders.proofs.Placing.{normal-more, within-more}
use Rattle.lockcheck_orders.proofs.normal.normal_order.Goals as goal

pub loop-i-preserved : goal.loop-i-preserved
loop-i-preserved c =
    let requests = c.args.desk.now in
    let there : c.loop-i.i < length requests = omega (arith, c.loop-i-test.true, c.len-i-end.ensures) in
    let slice = c.as_slice.ensures.value in
    let few : c.place-place.result ≤ length c.loop-i.order.items = omega (arith, c.place-place.ensures.few, ap length slice) in
    record {
      value =
          normal-more requests c.loop-i.order.items c.insert.new.self.items c.loop-i.i c.place-place.result there c.loop-i.invariant.value
          (c.place-place.ensures.place ∙ ap (λ (l : List ℕ). place_in (request_at requests c.loop-i.i) (in_order requests l)) slice)
          c.in_ok-insert.ensures.items;
      within =
          within-more (length requests) c.loop-i.i c.place-place.result c.loop-i.order.items c.insert.new.self.items there few c.loop-i.invariant.within
          c.in_ok-insert.ensures.items;
    }
