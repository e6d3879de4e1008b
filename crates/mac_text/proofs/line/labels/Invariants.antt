use Rattle.std.proofs.Common.{◌≡◌, ◌+◌, ◌-◌, ◌≤◌, length}
use Rattle.mac_text.specs.Scan.{with_front, items_at}
use Rattle.mac_text.specs.Lines.{next_label_at}
use Rattle.mac_text.proofs.line.labels.Given as goal

-- the labels so far and those to come are all
abbrev pub invariant-loop : goal.invariant-loop
invariant-loop l =
    (length l.scan.rest + l.counter ≤ l.most)
    × (with_front l.out (items_at next_label_at (l.most - l.counter) l.scan)
    ≡ items_at next_label_at (length l.fn.scan.rest) l.fn.scan)
