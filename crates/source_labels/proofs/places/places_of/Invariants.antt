use Rattle.std.proofs.Common.{◌≡◌, ◌++◌, drop, map}
use Rattle.source_labels.specs.Places.{block_end, labels_of, last_end, with_end}
use Rattle.source_labels.proofs.places.places_of.Given as goal

abbrev pub invariant-lines : goal.invariant-lines
invariant-lines l = record {
  labels :
      l.gathered.closed.items
      ++ (map (with_end (block_end (drop l.i l.lines) (drop l.i l.addresses))) l.gathered.current.items
      ++ labels_of (drop l.i l.lines) (drop l.i l.addresses))
      ≡ labels_of l.lines l.addresses;
  last : last_end l.gathered.end (drop l.i l.lines) (drop l.i l.addresses) ≡ last_end 0 l.lines l.addresses;
}
