use Rattle.macro_expansion.proofs.arguments.+arguments.Given as goal

-- fewer arguments may come
abbrev pub decreases-arguments : goal.decreases-arguments
decreases-arguments l = l.most
