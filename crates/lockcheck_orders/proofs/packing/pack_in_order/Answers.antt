use Rattle.std.proofs.Common.{◌≡◌, ◌<◌, ◌++◌, ◌∷◌, [], ℕ, Some, List, length, get_or, map, slice_get, sym, ap, subst, refl, ◌∙◌, arith}
use Rattle.std.proofs.lemmas.Option.{slice_get-get_or}
use Rattle.state_search.specs.Parts.{AreNumbers, grown_itself, grown_on, numbers_stay}
use Rattle.lockcheck_orders.specs.Packing.{came_from_some, packed_request}
use Rattle.lockcheck_orders.specs.Placing.{request_at}
use Rattle.lockcheck_orders.specs.Tables.{forms_at}
use Rattle.lockcheck_orders.proofs.Numbers.{numbers-more, packed-more}
use Rattle.lockcheck_orders.proofs.Placing.{packed-all, request-got}
use Rattle.lockcheck_orders.proofs.Positions.{all-got, map-more}
use Rattle.lockcheck_orders.proofs.packing.pack_in_order.Goals as goal

pub pack_request-requires-clause-come : goal.pack_request-requires-clause-come
pack_request-requires-clause-come c =
    all-got (came_from_some c.args.lines.now) c.args.desk.now (get_or c.args.order.now c.loop-i.i-index 0) c.request.result.now c.requires.come c.request.ensures

pub loop-i-preserved : goal.loop-i-preserved
loop-i-preserved c =
    let lines = c.args.lines.now in
    let old = c.loop-i.requests in
    let new = c.number_of.new.self in
    let ns = c.loop-i.numbers.items in
    let n = c.in_ok-number.number in
    let stored = c.in_ok-number.ensures.stored in
    let k : ℕ = get_or c.args.order.now c.loop-i.i-index 0 in
    let within : c.loop-i.i-index < length c.args.order.now = omega arith in
    let at : slice_get c.args.order.now c.loop-i.i-index ≡ Some k = slice_get-get_or c.args.order.now c.loop-i.i-index 0 within in
    let P : List ℕ → Type 0 = λ ms. AreNumbers c.number_of.new.self ms in (
      map-more (λ k. packed_request lines (request_at c.args.desk.now k)) c.args.order.now c.loop-i.i-index k (forms_at old ns)
          (forms_at new c.push.new.self.items) at
          (ap (forms_at new) c.in_ok-push.ensures.items
          ∙ packed-more old new ns n c.in_ok-kept.kept stored.0 (forms_at old ns) c.in_ok-number.ensures.grown c.loop-i.invariant.1 stored.1 stored.2 refl
          ∙ ap (λ r. forms_at old ns ++ r ∷ [])
          (c.in_ok-kept.ensures ∙ ap (packed_request lines) (request-got c.args.desk.now k c.request.result.now c.request.ensures)))
          c.loop-i.invariant.0,
      subst P (sym c.in_ok-push.ensures.items)
          (numbers-more new ns n (numbers_stay old new ns c.in_ok-number.ensures.grown c.loop-i.invariant.1) c.in_ok-number.ensures.within),
      grown_on c.args.requests.now old new c.loop-i.invariant.2 c.in_ok-number.ensures.grown,
      λ _. c.in_ok-number.ensures.unique,
    )

pub returns-clause-forms : goal.returns-clause-forms
returns-clause-forms c =
    let end : length c.args.order.now ≡ c.loop-i.i-index = omega arith in
    packed-all c.args.lines.now c.args.desk.now c.args.order.now c.loop-i.i-index (forms_at c.loop-i.requests c.loop-i.numbers.items) end
    c.loop-i.invariant.0
