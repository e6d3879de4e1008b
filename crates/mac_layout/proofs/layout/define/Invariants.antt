use Rattle.std.proofs.Common.{◌≡◌, ◌++◌, true, map, take}
use Rattle.std.specs.Map.{keys_of}
use Rattle.mac_layout.specs.Addresses.{are_apart}
use Rattle.mac_layout.proofs.layout.define.Given as goal

-- the labels so far have their address
abbrev pub invariant-loop-name : goal.invariant-loop-name
invariant-loop-name l = (l.labels.entries ≡ l.fn.labels.entries ++ map (λ name. (name, l.address)) (take l.name-index l.names))
    × (are_apart (keys_of l.fn.labels.entries) ≡ true → are_apart (keys_of l.labels.entries) ≡ true)
