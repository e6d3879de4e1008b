use Rattle.std.proofs.Common.{◌≡◌, take}
use Rattle.std.specs.Prelude.{filter}
use Rattle.image_files.specs.Images.{is_not_zero}
use Rattle.image_files.proofs.images.without_zeros.Given as goal

-- the words so far are those of the first ones that are not 0
abbrev pub invariant-loop-word : goal.invariant-loop-word
invariant-loop-word l = l.kept.items ≡ filter is_not_zero (take l.word-index l.words)
