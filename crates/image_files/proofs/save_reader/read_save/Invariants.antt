use Rattle.std.proofs.Common.{◌≡◌, ◌+◌, ◌≤◌, ◌^◌, drop}
use Rattle.image_files.specs.Saves.{image_from}
use Rattle.image_files.proofs.SaveLemmas.{with_words}
use Rattle.image_files.proofs.save_reader.read_save.Given as goal

-- the words so far before those to come are the words of all, and the block in hand ends below 2 ^ 18
abbrev pub invariant-loop-i : goal.invariant-loop-i
invariant-loop-i l =
    (with_words l.loaded.items (image_from (l.i + 1) l.left l.address (drop l.i l.words)) ≡ image_from 1 0 0 l.words) × (l.address + l.left ≤ 2 ^ 18)
