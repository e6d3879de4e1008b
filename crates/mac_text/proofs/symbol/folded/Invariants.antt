use Rattle.std.proofs.Common.{◌≡◌, map, take}
use Rattle.mac_text.specs.Characters.{upper_case}
use Rattle.mac_text.proofs.symbol.folded.Given as goal

abbrev pub invariant-loop-i : goal.invariant-loop-i
invariant-loop-i l = l.characters.items ≡ map upper_case (take l.i l.name)
