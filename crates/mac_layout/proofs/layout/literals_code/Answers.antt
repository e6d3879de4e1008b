use Rattle.std.proofs.Common.{◌∙◌, ap}
use Rattle.mac_layout.specs.Faults.{least}
use Rattle.mac_layout.proofs.LayoutLemmas.{literals_begin, literals_more, literals_end}
use Rattle.mac_layout.proofs.layout.literals_code.Goals as goal

pub loop-size-init : goal.loop-size-init
loop-size-init c = λ past m. literals_begin past c.in_ok-at.at c.args.address.now c.args.sizes.now c.in_ok-at.ensures

pub loop-size-preserved : goal.loop-size-preserved
loop-size-preserved c = λ past m.
    literals_more past c.loop-size.code c.least-code.result c.loop-size.at c.advance.new.address c.args.sizes.now
    c.loop-size.size-index c.size-item.result _ _ c.loop-size-test.true
    c.size-item.is (c.least-code.ensures ∙ ap (least c.loop-size.code) (c.size_code.ensures past m)) c.in_ok-advance.ensures (c.loop-size.invariant past m)

pub returns : goal.returns
returns c =
    λ past m. literals_end past c.loop-size.code c.loop-size.at c.args.address.now c.args.sizes.now c.loop-size.size-index
    c.loop-size-test.false (c.loop-size.invariant past m)
