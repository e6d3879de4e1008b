use Rattle.macro_expressions.proofs.terms.+statements.Given as goal

-- fewer statements may come
abbrev pub decreases-statements : goal.decreases-statements
decreases-statements g l = l.most
