use Rattle.std.proofs.Common.{◌≡◌, ◌<◌, ◌++◌, ◌∷◌, [], ℕ, List, length, take, get_or, sym, ap, subst, ◌∙◌, arith}
use Rattle.std.proofs.lemmas.List.{take_more}
use Rattle.std.proofs.lemmas.Option.{slice_get-get_or}
use Rattle.kept_parts.specs.SameRequests.{same_request, same_request-Decides}
use Rattle.lock_queue.specs.Unused.{unused_request}
use Rattle.lock_queue.specs.declared.request.Request.{Request}
use Rattle.state_search.specs.Parts.{AreNumbers, grown_on, numbers_stay, parts_stay}
use Rattle.job_orders.specs.Tables.{requests_in}
use Rattle.job_orders.proofs.Numbers.{all-more, parts-more, some-is, stored}
use Rattle.job_orders.proofs.packing.number_requests.Goals as goal

pub loop-i-preserved : goal.loop-i-preserved
loop-i-preserved g c =
    let old = c.loop-i.table in
    let new = c.number_of.new.self in
    let ns = c.loop-i.numbers.items in
    let n = c.in_ok-number.number in
    let rs : List Request = g.L.LockTable.requests c.args.locks.now in
    let grown = c.in_ok-number.ensures.grown in
    let s = c.in_ok-number.ensures.stored in
    let within : c.loop-i.i < length (g.L.LockTable.requests c.args.locks.now) = omega arith in
    let r : Request = c.request.result.now in
    let got : get_or rs c.loop-i.i unused_request ≡ r =
    some-is (get_or rs c.loop-i.i unused_request) r (sym (slice_get-get_or rs c.loop-i.i unused_request within) ∙ c.request.ensures) in
    let P : List ℕ → Type 0 = λ ms. AreNumbers c.number_of.new.self ms in (
      ap (requests_in c.number_of.new.self) c.in_ok-push.ensures.items
          ∙ parts-more (λ (q : Request). q) unused_request new ns n
          ∙ ap (λ l. l ++ requests_in c.number_of.new.self (c.in_ok-number.number ∷ []))
          (parts_stay (λ (q : Request). q) unused_request old new ns grown c.loop-i.invariant.1 ∙ c.loop-i.invariant.0)
          ∙ ap (λ q. take c.loop-i.i (g.L.LockTable.requests c.args.locks.now) ++ q ∷ [])
          (stored (λ (q : Request). q) unused_request same_request same_request-Decides new n c.copied-request.result s.0 c.in_ok-number.ensures.within s.1 s.2
          ∙ c.copied-request.ensures ∙ sym got)
          ∙ sym (take_more rs c.loop-i.i unused_request within),
      subst P (sym c.in_ok-push.ensures.items)
          (all-more (λ k. k < length new) ns n (numbers_stay old new ns grown c.loop-i.invariant.1) c.in_ok-number.ensures.within),
      grown_on c.args.table.now old new c.loop-i.invariant.2 grown,
      λ _. c.in_ok-number.ensures.unique,
    )
