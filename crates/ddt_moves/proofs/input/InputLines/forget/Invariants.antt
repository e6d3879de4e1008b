use Rattle.std.proofs.Common.{◌≡◌, take}
use Rattle.std.specs.List.{count_by}
use Rattle.ddt_moves.specs.Input.{was_typed}
use Rattle.ddt_moves.proofs.input.InputLines.forget.Given as goal

abbrev pub invariant-loop-typed : goal.invariant-loop-typed
invariant-loop-typed l = l.kept ≡ count_by (was_typed l.happened) (take l.typed-index l.typed-items)
