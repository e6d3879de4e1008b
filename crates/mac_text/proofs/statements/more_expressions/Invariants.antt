use Rattle.std.proofs.Common.{◌≡◌, ◌-◌, length}
use Rattle.mac_text.specs.Scan.{with_front, items_at}
use Rattle.mac_text.specs.Statements.{next_expression_at}
use Rattle.mac_text.proofs.statements.more_expressions.Given as goal

-- the expressions so far and those to come are all
abbrev pub invariant-loop : goal.invariant-loop
invariant-loop l =
    with_front l.expressions (items_at next_expression_at (l.most - l.counter) l.scan)
    ≡ with_front l.fn.expressions (items_at next_expression_at (length l.fn.scan.rest) l.fn.scan)
