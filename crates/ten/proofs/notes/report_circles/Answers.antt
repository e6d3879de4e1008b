use Rattle.std.proofs.Common.{◌≡◌, ◌+◌, ◌++◌, ◌∙◌, ◌∷◌, [], List, ℕ, ap, sym, refl, arith, append-nil, append_assoc, drop}
use Rattle.std.proofs.lemmas.List.{drop_all, drop_more}
use Rattle.ten.specs.Reports.{AreCircles, IsCircleBy}
use Rattle.ten.proofs.Adding.{some_both, some_weaker}
use Rattle.ten.proofs.notes.report_circles.Goals as goal

pub loop-fact-preserved : goal.loop-fact-preserved
loop-fact-preserved c =
    let t = c.args.tick in
    let r = c.args.machine.now.world.requests in
    let fs = c.args.facts.now in
    let i = c.loop-fact.fact-index in
    let f = c.fact-item.result in
    let next : drop i fs ≡ f ∷ drop (i + 1) fs =
    drop_more fs i f (omega (arith, c.loop-fact-test.true)) ∙ ap (λ y. y ∷ drop (i + 1) fs) (sym c.fact-item.is) in
    some_both c.args.errors.now c.loop-fact.errors c.report_circle_by.new.errors
    (λ (text : List ℕ). (rest : List ℕ) → AreCircles t r (drop i fs) rest → AreCircles t r fs (text ++ rest))
    (IsCircleBy t r f)
    (λ (text : List ℕ). (rest : List ℕ) → AreCircles t r (drop (i + 1) fs) rest → AreCircles t r fs (text ++ rest))
    (λ x y before line rest later.
    rw (append_assoc x y rest) (before (y ++ rest) (rw next (y, rest, refl, line, later))))
    c.loop-fact.invariant c.report_circle_by.ensures

pub returns : goal.returns
returns c =
    let t = c.args.tick in
    let r = c.args.machine.now.world.requests in
    let fs = c.args.facts.now in
    let i = c.loop-fact.fact-index in
    let end : drop i fs ≡ [] = drop_all i fs (omega (arith, c.loop-fact-test.false)) in
    some_weaker c.args.errors.now c.loop-fact.errors
    (λ (text : List ℕ). (rest : List ℕ) → AreCircles t r (drop i fs) rest → AreCircles t r fs (text ++ rest))
    (AreCircles t r fs)
    (λ text so. rw (sym (append-nil text)) (so [] (rw end refl)))
    c.loop-fact.invariant
