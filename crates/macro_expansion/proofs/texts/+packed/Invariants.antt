use Rattle.macro_expansion.proofs.texts.+packed.Given as goal

-- fewer words come
abbrev pub decreases-packed : goal.decreases-packed
decreases-packed l = l.count
