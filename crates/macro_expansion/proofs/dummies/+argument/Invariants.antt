use Rattle.macro_expansion.proofs.dummies.+argument.Given as goal

-- fewer arguments are passed over
abbrev pub decreases-argument : goal.decreases-argument
decreases-argument l = l.number
