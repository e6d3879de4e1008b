use Rattle.std.proofs.Common.{arith}
use Rattle.mac_asm.proofs.CellLemmas.{set_first}
use Rattle.mac_asm.proofs.cells.Cells.set.Goals as goal

pub returns-then-at-len : goal.returns-then-at-len
returns-then-at-len c = rw (← c.self.view_is) (set_first _ _ _ (omega arith))
