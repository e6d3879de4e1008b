use Rattle.std.proofs.Common.{◌≡◌, ◌++◌, drop}
use Rattle.std.specs.List.{flat_map}
use Rattle.script_io.specs.Printing.{printed_character}
use Rattle.run_commands.proofs.texts.push_each.Given as goal

abbrev pub invariant-loop-character : goal.invariant-loop-character
invariant-loop-character l =
    l.out.items ++ flat_map printed_character (drop l.character-index l.text)
    ≡ l.initial.out.items ++ flat_map printed_character l.text
