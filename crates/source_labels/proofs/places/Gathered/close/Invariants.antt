use Rattle.std.proofs.Common.{◌≡◌, ◌++◌, map, take}
use Rattle.source_labels.specs.Places.{with_end}
use Rattle.source_labels.proofs.places.Gathered.close.Given as goal

abbrev pub invariant-labels : goal.invariant-labels
invariant-labels l = record {
  closed : l.self.closed.items ≡ l.initial.self.closed.items ++ map (with_end l.end) (take l.i l.initial.self.current.items);
  current : l.self.current ≡ l.initial.self.current;
  end : l.self.end ≡ l.initial.self.end;
}
