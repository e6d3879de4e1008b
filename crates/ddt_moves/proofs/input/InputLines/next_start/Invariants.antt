use Rattle.std.proofs.Common.{◌≡◌, drop}
use Rattle.ddt_moves.specs.Input.{next_start, start_behind, typed_of}
use Rattle.ddt_moves.proofs.input.InputLines.next_start.Given as goal

abbrev pub invariant-loop-typed : goal.invariant-loop-typed
invariant-loop-typed l = start_behind l.happened l.start (drop l.typed-index (typed_of l.self)) ≡ next_start l.self l.happened
