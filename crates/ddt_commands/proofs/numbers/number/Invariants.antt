use Rattle.std.proofs.Common.{◌≡◌, ◌^◌, drop}
use Rattle.std.specs.Prelude.{min}
use Rattle.std.specs.List.{list_all}
use Rattle.ddt_commands.specs.Numbers.{is_digit, number_behind}
use Rattle.ddt_commands.proofs.numbers.number.Given as goal

abbrev pub invariant-loop-byte : goal.invariant-loop-byte
invariant-loop-byte l = record {
  digits : list_all (is_digit l.radix) (drop l.byte-index l.text) ≡ list_all (is_digit l.radix) l.text;
  number : min (2 ^ 40) (number_behind l.radix l.value (drop l.byte-index l.text)) ≡ min (2 ^ 40) (number_behind l.radix 0 l.text);
}
