use Rattle.std.proofs.Common.{◌≡◌, ◌+◌, drop}
use Rattle.std.specs.List.{prefix_len}
use Rattle.mac_text.specs.Scan.{is_title_character}
use Rattle.mac_text.proofs.characters.title_len.Given as goal

-- all characters so far are of the kind
abbrev pub invariant-loop-i : goal.invariant-loop-i
invariant-loop-i l = l.i + prefix_len is_title_character (drop l.i l.text) ≡ prefix_len is_title_character l.text
