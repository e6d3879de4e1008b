use Rattle.std.proofs.Common.{◌≡◌, map, drop}
use Rattle.mac_layout.specs.LaidOut.{count_or}
use Rattle.mac_layout.specs.Addresses.{addresses_from}
use Rattle.mac_layout.proofs.LayoutLemmas.{addresses_with}
use Rattle.mac_layout.proofs.layout.addresses_of_literals.Given as goal

-- the addresses so far and those to come are all
abbrev pub invariant-loop-size : goal.invariant-loop-size
invariant-loop-size l = addresses_with l.addresses.items l.at (drop l.size-index l.sizes) ≡ addresses_from l.address (map (count_or 0) l.sizes)
