use Rattle.std.proofs.Common.{◌≡◌, length, take, true}
use Rattle.std.specs.List.{flat_map}
use Rattle.script_io.specs.Printing.{printed_character}
use Rattle.run_commands.proofs.texts.plain_numbers.Given as goal

abbrev pub invariant-loop-i : goal.invariant-loop-i
invariant-loop-i l = record {
  room : length l.numbers ≡ 16;
  copied : take l.i l.numbers ≡ take l.i l.characters;
  plain : l.are_plain ≡ true → flat_map printed_character (take l.i l.characters) ≡ take l.i l.characters;
}
