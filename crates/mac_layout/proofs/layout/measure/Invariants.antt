use Rattle.std.proofs.Common.{◌≡◌, ◌++◌, map, take}
use Rattle.mac_layout.specs.LaidOut.{literal_size}
use Rattle.mac_layout.proofs.layout.measure.Given as goal

-- the sizes of the literals so far
abbrev pub invariant-loop-given : goal.invariant-loop-given
invariant-loop-given l = l.sizes.items ≡ l.fn.sizes.items ++ map (literal_size l.labels.entries l.here) (take l.given-index l.literals)
