use Rattle.std.proofs.Common.{◌≡◌, take}
use Rattle.std.specs.List.{list_all}
use Rattle.mac_text.specs.Lines.{is_ascii}
use Rattle.mac_text.proofs.characters.is_ascii.Given as goal

-- the greatest so far tells of all so far
abbrev pub invariant-loop-c : goal.invariant-loop-c
invariant-loop-c l = is_ascii l.greatest ≡ list_all is_ascii (take l.c-index l.text)
