use Rattle.std.proofs.Common.{◌≡◌, ◌++◌, length}
use Rattle.image_files.specs.Packings.{dense_bytes}
use Rattle.image_files.proofs.to_bytes.pack_dense.Given as goal

-- the bytes so far and those to come are all
abbrev pub invariant-loop-rest : goal.invariant-loop-rest
invariant-loop-rest l = l.bytes.items ++ dense_bytes l.rest ≡ dense_bytes l.words

abbrev pub decreases-loop-rest : goal.decreases-loop-rest
decreases-loop-rest l = length l.rest
