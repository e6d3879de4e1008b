use Rattle.std.proofs.Common.{◌≡◌, ◌≤◌, length, drop}
use Rattle.mac_asm.specs.Filled.{put_from}
use Rattle.mac_asm.proofs.cells.Cells.put.Given as goal

-- the words that are left come behind those that were put
abbrev pub invariant-loop-word : goal.invariant-loop-word
invariant-loop-word l = (l.at ≤ l.len) × (length l.self ≡ l.len) × (put_from l.self l.at (drop l.word-index l.words) ≡ put_from l.fn.self l.fn.address l.words)
