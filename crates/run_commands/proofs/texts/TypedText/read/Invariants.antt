use Rattle.std.proofs.Common.{◌≡◌, ◌+◌, ◌≤◌, length}
use Rattle.run_commands.specs.Texts.{characters_of}
use Rattle.run_commands.proofs.TextLemmas.{behind}
use Rattle.run_commands.proofs.texts.TypedText.read.Given as goal

abbrev pub invariant-loop-first : goal.invariant-loop-first
invariant-loop-first l = record {
  spelled : behind l.typed (characters_of l.rest) ≡ characters_of l.fn.text;
  room : length l.typed + length l.rest ≤ 256;
}

abbrev pub decreases-loop-first : goal.decreases-loop-first
decreases-loop-first l = length l.rest
