use Rattle.std.proofs.Common.{◌≡◌, ◌++◌, drop, map}
use Rattle.ddt_moves.specs.RunStops.{cause_of, stop_of_word, watched}
use Rattle.ddt_moves.proofs.run_stops.RunStops.add_words.Given as goal

abbrev pub invariant-loop-one : goal.invariant-loop-one
invariant-loop-one l = record {
  stops :
      l.self.stops.items ++ map watched (map (stop_of_word l.machine) (drop l.one-index l.words))
      ≡ l.initial.self.stops.items ++ map watched (map (stop_of_word l.machine) l.words);
  causes :
      l.self.causes.items ++ map (cause_of 0) (map (stop_of_word l.machine) (drop l.one-index l.words))
      ≡ l.initial.self.causes.items ++ map (cause_of 0) (map (stop_of_word l.machine) l.words);
}
