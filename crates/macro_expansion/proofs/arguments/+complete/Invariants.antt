use Rattle.macro_expansion.proofs.arguments.+complete.Given as goal

-- fewer dummies are left
abbrev pub decreases-complete : goal.decreases-complete
decreases-complete l = l.most
