use Rattle.std.proofs.Common.{◌≡◌, ◌<◌, ℕ}
use Rattle.tty_lines.specs.Rings.{no_characters}
use Rattle.job_order_laws.specs.Places.{rings_of}
use Rattle.job_orders.proofs.looking.busy_line.Given as goal

abbrev pub invariant-loop-line : goal.invariant-loop-line
invariant-loop-line l = (k : ℕ) → k < l.line → rings_of l.lines k ≡ no_characters
