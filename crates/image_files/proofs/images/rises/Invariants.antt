use Rattle.std.proofs.Common.{drop}
use Rattle.image_files.proofs.ImageLemmas.{SameRise}
use Rattle.image_files.proofs.images.rises.Given as goal

abbrev pub invariant-loop-word : goal.invariant-loop-word
invariant-loop-word l = SameRise l.least (drop l.word-index l.words) l.words
