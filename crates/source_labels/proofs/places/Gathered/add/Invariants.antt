use Rattle.std.proofs.Common.{◌≡◌, ◌++◌, map, take}
use Rattle.source_labels.specs.Places.{label_at}
use Rattle.source_labels.proofs.places.Gathered.add.Given as goal

abbrev pub invariant-symbols : goal.invariant-symbols
invariant-symbols l = record {
  closed : l.self.closed ≡ l.initial.self.closed;
  current : l.self.current.items ≡ l.initial.self.current.items ++ map (label_at l.place 0) (take l.symbol-index l.symbols);
  end : l.self.end ≡ l.initial.self.end;
}
