use Rattle.std.proofs.Common.{◌≡◌, ◌++◌, drop, string_bytes}
use Rattle.std.specs.List.{flat_map}
use Rattle.queue_script.specs.Printing.{name_character}
use Rattle.run_notes.proofs.locks.push_characters.Given as goal

abbrev pub invariant-loop-byte : goal.invariant-loop-byte
invariant-loop-byte l =
    string_bytes l.text ++ flat_map name_character (drop l.byte-index l.name)
    ≡ string_bytes l.initial.text ++ flat_map name_character l.name
