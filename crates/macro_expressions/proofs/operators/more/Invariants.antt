use Rattle.std.proofs.Common.{◌≡◌, ◌-◌}
use Rattle.macro_expressions.specs.Values.{more_at}
use Rattle.macro_expressions.proofs.operators.more.Given as goal

-- the operators to come lead to what all lead to
abbrev pub invariant-loop : goal.invariant-loop
invariant-loop g l =
    more_at (g.O.Operand.reads l.operand) l.level (l.most - l.counter) l.left l.front
    ≡ more_at (g.O.Operand.reads l.operand) l.level l.most l.fn.first l.fn.front
