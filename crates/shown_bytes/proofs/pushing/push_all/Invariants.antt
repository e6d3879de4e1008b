use Rattle.std.proofs.Common.{◌≡◌, ◌++◌, drop, string_bytes}
use Rattle.std.specs.List.{flat_map}
use Rattle.shown_bytes.specs.Shown.{shown_byte}
use Rattle.shown_bytes.proofs.pushing.push_all.Given as goal

abbrev pub invariant-loop-byte : goal.invariant-loop-byte
invariant-loop-byte l =
    string_bytes l.out ++ flat_map shown_byte (drop l.byte-index l.bytes) ≡ string_bytes l.initial.out ++ flat_map shown_byte l.bytes
