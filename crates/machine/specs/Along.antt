-- What holds along a run.
use Rattle.std.specs.Prelude.{ℕ, List, [], ◌∷◌, take, ⊤}
use Rattle.machine.specs.declared.event.Event.{Event}
use Rattle.machine.specs.Machine.{S, happens, after}

-- P holds of the state after each beginning of a run, the empty one and the whole among them
abbrev pub Always : (S → Type 0) → S → List Event → Type 0
Always P s es = (k : ℕ) → P (after (take k es) s)

-- P holds of each event of a run and the state before it
abbrev pub Along : (S → Event → Type 0) → S → List Event → Type 0
Along P s [] = ⊤
Along P s (e ∷ es) = P s e × Along P (happens s e).state es
