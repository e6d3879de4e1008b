use Rattle.std.proofs.Common.{◌≡◌, ◌++◌, drop}
use Rattle.std.specs.List.{flat_map}
use Rattle.image_service.specs.Transcripts.{listed_line}
use Rattle.image_service.proofs.listing.push_words.Given as goal

abbrev pub invariant-loop-word : goal.invariant-loop-word
invariant-loop-word l = l.out.items ++ flat_map listed_line (drop l.word-index l.words) ≡ l.initial.out.items ++ flat_map listed_line l.words
