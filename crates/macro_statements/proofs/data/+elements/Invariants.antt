use Rattle.macro_statements.proofs.data.+elements.Given as goal

-- fewer words may come
abbrev pub decreases-elements : goal.decreases-elements
decreases-elements g l = l.most
