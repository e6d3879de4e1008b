use Rattle.std.proofs.Common.{◌∙◌, ◌∷◌, [], ◌++◌, ap}
use Rattle.mac_layout.proofs.LayoutLemmas.{addresses_more, addresses_end}
use Rattle.mac_layout.proofs.layout.addresses_of_literals.Goals as goal

pub loop-size-preserved : goal.loop-size-preserved
loop-size-preserved c =
    addresses_more c.loop-size.addresses.items c.push.new.self.items c.loop-size.at c.advance.new.address c.args.sizes.now
    c.loop-size.size-index c.size-item.result _ _ c.loop-size-test.true
    c.size-item.is (c.in_ok-push.ensures.items ∙ ap (λ p. c.loop-size.addresses.items ++ p ∷ []) c.in_ok-try_clone.ensures)
    c.in_ok-advance.ensures c.loop-size.invariant

pub returns : goal.returns
returns c = addresses_end c.loop-size.addresses.items c.loop-size.at c.args.sizes.now c.loop-size.size-index _ c.loop-size-test.false c.loop-size.invariant
