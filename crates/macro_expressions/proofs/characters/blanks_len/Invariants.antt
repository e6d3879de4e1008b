use Rattle.std.proofs.Common.{◌≡◌, ◌+◌, drop}
use Rattle.std.specs.List.{prefix_len}
use Rattle.mac_text.specs.Characters.{is_blank}
use Rattle.macro_expressions.proofs.characters.blanks_len.Given as goal

-- all characters so far are of the kind
abbrev pub invariant-loop-i : goal.invariant-loop-i
invariant-loop-i l = l.i + prefix_len is_blank (drop l.i l.text) ≡ prefix_len is_blank l.text
