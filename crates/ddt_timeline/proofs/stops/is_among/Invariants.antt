use Rattle.std.proofs.Common.{◌≡◌, drop}
use Rattle.machine.specs.Between.{is_among}
use Rattle.ddt_timeline.proofs.stops.is_among.Given as goal

abbrev pub invariant-loop-one : goal.invariant-loop-one
invariant-loop-one l = is_among (drop l.one-index l.addresses) l.address ≡ is_among l.addresses l.address
