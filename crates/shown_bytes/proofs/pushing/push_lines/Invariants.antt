use Rattle.std.proofs.Common.{◌≡◌, ◌++◌, drop, string_bytes}
use Rattle.std.specs.List.{flat_map}
use Rattle.shown_bytes.specs.Shown.{shown_in_lines}
use Rattle.shown_bytes.proofs.pushing.push_lines.Given as goal

abbrev pub invariant-loop-byte : goal.invariant-loop-byte
invariant-loop-byte l =
    string_bytes l.out ++ flat_map shown_in_lines (drop l.byte-index l.text) ≡ string_bytes l.initial.out ++ flat_map shown_in_lines l.text
