use Rattle.macro_expressions.proofs.expressions.+unary.Given as goal

-- fewer signs may come
abbrev pub decreases-unary : goal.decreases-unary
decreases-unary g l = l.most
