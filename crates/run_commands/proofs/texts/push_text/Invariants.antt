use Rattle.std.proofs.Common.{◌≡◌, ◌++◌, length}
use Rattle.std.specs.List.{flat_map}
use Rattle.script_io.specs.Printing.{printed_character}
use Rattle.run_commands.proofs.texts.push_text.Given as goal

abbrev pub invariant-loop-first : goal.invariant-loop-first
invariant-loop-first l =
    l.out.items ++ flat_map printed_character l.rest ≡ l.initial.out.items ++ flat_map printed_character l.text

abbrev pub decreases-loop-first : goal.decreases-loop-first
decreases-loop-first l = length l.rest
