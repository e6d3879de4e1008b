use Rattle.std.proofs.Common.{◌≡◌, drop}
use Rattle.std.specs.Prelude.{option_map, zip}
use Rattle.mac_layout.specs.Values.{names_of}
use Rattle.mac_asm.specs.Assembly.{literal_words}
use Rattle.mac_asm.specs.Filled.{put_all}
use Rattle.mac_asm.proofs.assembly.Core.put_literals.Given as goal

-- the literals that are left come behind those that were put
abbrev pub invariant-loop-i : goal.invariant-loop-i
invariant-loop-i l =
    option_map (put_all l.self.cells) (literal_words (names_of l.scope) (zip (drop l.i l.scope.literals.now) (drop l.i l.literals)))
    ≡ option_map (put_all l.fn.self.cells) (literal_words (names_of l.fn.scope) (zip l.fn.scope.literals.now l.fn.literals))
