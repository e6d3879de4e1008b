use Rattle.macro_expansion.proofs.dummies.+read_dummies.Given as goal

-- fewer names may come
abbrev pub decreases-read_dummies : goal.decreases-read_dummies
decreases-read_dummies l = l.most
