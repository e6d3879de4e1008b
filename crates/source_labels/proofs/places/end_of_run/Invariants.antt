use Rattle.std.proofs.Common.{◌≡◌, drop}
use Rattle.source_labels.specs.Places.{run_end}
use Rattle.source_labels.proofs.places.end_of_run.Given as goal

abbrev pub invariant-words : goal.invariant-words
invariant-words l = run_end l.end (drop l.place-index l.place-items) ≡ run_end l.first l.image.words.items
