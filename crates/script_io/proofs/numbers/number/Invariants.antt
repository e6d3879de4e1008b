use Rattle.std.proofs.Common.{◌≡◌, ◌≤◌, drop}
use Rattle.std.specs.List.{list_all}
use Rattle.script_io.specs.Numbers.{is_digit, value_onto}
use Rattle.script_io.proofs.numbers.number.Given as goal

abbrev pub invariant-loop-byte : goal.invariant-loop-byte
invariant-loop-byte l = record {
  value : value_onto l.base l.value (drop l.byte-index l.text) ≡ value_onto l.base 0 l.text;
  digits : list_all (is_digit l.base) (drop l.byte-index l.text) ≡ list_all (is_digit l.base) l.text;
  small : l.value ≤ l.most;
}
