use Rattle.std.proofs.Common.{◌≡◌, ◌+◌, ◌-◌, length}
use Rattle.std.specs.Prelude.{replicate}
use Rattle.mac_asm.specs.Filled.{put_from}
use Rattle.mac_asm.proofs.cells.Cells.put_zeros.Given as goal

-- the zeros that are left come behind those that were put
abbrev pub invariant-loop-at : goal.invariant-loop-at
invariant-loop-at l =
    (length l.self ≡ l.len)
    × (put_from l.self l.at (replicate (l.first + l.count - l.at) 0) ≡ put_from l.fn.self l.fn.address (replicate l.fn.count 0))
