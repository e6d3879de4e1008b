use Rattle.std.proofs.Common.{◌≡◌, take, replicate}
use Rattle.tty_lines.specs.Rings.{no_characters}
use Rattle.tty_lines.proofs.lines.Lines.clear.Given as goal

abbrev pub invariant-loop-ring : goal.invariant-loop-ring
invariant-loop-ring l = take l.ring-index l.rings ≡ replicate l.ring-index no_characters
