use Rattle.std.proofs.Common.{◌≡◌, ◌+◌, length, vec_len}
use Rattle.image_files.specs.Unpacks.{with_words}
use Rattle.image_files.specs.WordForms.{numbered_words}
use Rattle.image_files.proofs.from_bytes.unpack_each.Given as goal

-- the words so far before those of the rest are the words of all
abbrev pub invariant-loop-rest : goal.invariant-loop-rest
invariant-loop-rest l = with_words l.words.items (numbered_words l.form (vec_len l.words + 1) l.rest) ≡ numbered_words l.form 1 l.bytes

abbrev pub decreases-loop-rest : goal.decreases-loop-rest
decreases-loop-rest l = length l.rest
