use Rattle.std.proofs.Common.{◌≡◌, ◌+◌, drop}
use Rattle.mac_asm.specs.Outcome.{lines_with}
use Rattle.mac_asm.specs.Filled.{filled}
use Rattle.mac_asm.proofs.FillLemmas.{filled_from}
use Rattle.mac_asm.proofs.assembly.Core.put_lines.Given as goal

-- the lines that are left come behind those whose words were put
abbrev pub invariant-loop-i : goal.invariant-loop-i
invariant-loop-i l =
    filled_from l.self.cells l.start (l.i + 1) (lines_with l.labels.entries (drop l.i l.addresses) l.left (drop l.i l.lines))
    ≡ filled l.fn.self.cells (lines_with l.fn.labels.entries l.fn.addresses l.fn.literals l.fn.lines)
