use Rattle.std.proofs.Common.{◌≡◌, drop}
use Rattle.std.specs.List.{list_all}
use Rattle.mac_layout.specs.Values.{is_known, names_of}
use Rattle.mac_asm.proofs.words.are_all_known.Given as goal

-- all so far are known
abbrev pub invariant-loop-expression : goal.invariant-loop-expression
invariant-loop-expression l =
    list_all (is_known (names_of l.scope)) (drop l.expression-index l.expressions)
    ≡ list_all (is_known (names_of l.scope)) l.expressions
