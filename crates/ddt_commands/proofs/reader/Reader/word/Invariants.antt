use Rattle.std.proofs.Common.{◌≡◌, ◌+◌, drop}
use Rattle.std.specs.List.{prefix_len}
use Rattle.ddt_commands.specs.Values.{is_inside}
use Rattle.ddt_commands.proofs.reader.Reader.word.Given as goal

abbrev pub invariant-loop-i : goal.invariant-loop-i
invariant-loop-i l = l.i + prefix_len is_inside (drop l.i l.text) ≡ prefix_len is_inside l.text
