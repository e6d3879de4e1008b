use Rattle.std.proofs.Common.{◌≡◌, ◌∙◌, ◌+◌, ◌-◌, ap, length, replicate, take, drop, true, arith, length-drop, length-take}
use Rattle.mac_layout.proofs.LayoutLemmas.{marked}
use Rattle.mac_layout.proofs.layout.mark.Goals as goal

pub returns : goal.returns
returns c = λ past m.
    let n : c.part-first.result.0 + c.part-first.result.1 - c.part-first.result.0 ≡ c.part-first.result.1 = omega arith in
    let k : length
    (take (c.part-first.result.0 + c.part-first.result.1 - c.part-first.result.0)
    (drop c.part-first.result.0 c.args.taken.now)) ≡ c.part-first.result.1 = simp (length-take, length-drop) (omega arith) in
    marked c.args.taken.now c.fill.new.self past c.args.address.now c.args.size.now c.part-first.result.0 c.part-first.result.1 _ m c.part-first.ensures.within n
    (c.fill.ensures.after (λ y h. h) ∙ ap (λ j. replicate j true) k) c.part-first.ensures.addresses
