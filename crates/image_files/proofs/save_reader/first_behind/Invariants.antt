use Rattle.std.proofs.Common.{◌≡◌, ℕ, ◌+◌, drop}
use Rattle.image_files.specs.Saves.{ended_by}
use Rattle.image_files.proofs.save_reader.first_behind.Given as goal

-- the words so far are 0
abbrev pub invariant-loop-i : goal.invariant-loop-i
invariant-loop-i l = (start number : ℕ) → ended_by start number l.words ≡ ended_by start (number + l.i) (drop l.i l.words)
