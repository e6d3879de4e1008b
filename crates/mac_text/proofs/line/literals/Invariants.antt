use Rattle.std.proofs.Common.{◌≡◌, drop}
use Rattle.mac_text.specs.Lines.{literals_of}
use Rattle.mac_text.proofs.LineLemmas.{with_earlier, texts_of}
use Rattle.mac_text.proofs.line.literals.Given as goal

-- the statements so far and those to come are all
abbrev pub invariant-loop-cut : goal.invariant-loop-cut
invariant-loop-cut l = with_earlier l.literals (literals_of l.radix (texts_of (drop l.cut-index l.cuts))) ≡ literals_of l.radix (texts_of l.cuts)
