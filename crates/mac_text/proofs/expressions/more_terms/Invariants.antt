use Rattle.std.proofs.Common.{◌≡◌, ◌-◌}
use Rattle.mac_text.specs.Scan.{with_front, items_at}
use Rattle.mac_text.specs.Expressions.{next_term_at}
use Rattle.mac_text.proofs.expressions.more_terms.Given as goal

-- the terms so far and those to come are all terms
abbrev pub invariant-loop : goal.invariant-loop
invariant-loop l =
    with_front l.expression (items_at next_term_at (l.most - l.counter) l.scan)
    ≡ with_front l.fn.expression (items_at next_term_at l.most l.fn.scan)
