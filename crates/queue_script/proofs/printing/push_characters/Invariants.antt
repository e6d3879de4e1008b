use Rattle.std.proofs.Common.{◌≡◌, ◌++◌, drop}
use Rattle.std.specs.List.{flat_map}
use Rattle.queue_script.specs.Printing.{name_character}
use Rattle.queue_script.proofs.printing.push_characters.Given as goal

abbrev pub invariant-loop-character : goal.invariant-loop-character
invariant-loop-character l =
    l.out.items ++ flat_map name_character (drop l.character-index l.text) ≡ l.initial.out.items ++ flat_map name_character l.text
