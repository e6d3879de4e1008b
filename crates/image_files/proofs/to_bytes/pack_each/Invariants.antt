use Rattle.std.proofs.Common.{◌≡◌, ◌++◌, drop}
use Rattle.std.specs.List.{flat_map}
use Rattle.image_files.specs.WordForms.{bytes_in}
use Rattle.image_files.proofs.to_bytes.pack_each.Given as goal

-- the bytes so far and those to come are all
abbrev pub invariant-loop-word : goal.invariant-loop-word
invariant-loop-word l = l.bytes.items ++ flat_map (bytes_in l.form) (drop l.word-index l.words) ≡ flat_map (bytes_in l.form) l.words
