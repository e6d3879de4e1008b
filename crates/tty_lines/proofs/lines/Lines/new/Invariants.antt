use Rattle.std.proofs.Common.{◌≡◌, replicate}
use Rattle.tty_lines.specs.Rings.{no_characters}
use Rattle.tty_lines.proofs.lines.Lines.new.Given as goal

abbrev pub invariant-loop : goal.invariant-loop
invariant-loop l = l.lines.items ≡ replicate l.counter no_characters
