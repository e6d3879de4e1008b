use Rattle.mac_asm.proofs.CellLemmas.{all_none}
use Rattle.mac_asm.proofs.cells.Cells.with_room.Goals as goal

pub returns : goal.returns
returns c = all_none _ c.in_ok-with_capacity.ensures.items
