-- The events of a run, and the pieces that a script says of it (this project's profile).
use Rattle.std.specs.Prelude.{ℕ, zero, suc, Bool, List, [], ◌∷◌, ◌++◌, map, replicate, if◌then◌else◌}
use Rattle.std.specs.List.{flat_map}
use Rattle.run_record.specs.declared.happened.RunEvent.{RunEvent}
use Rattle.run_record.specs.declared.happened.RunEvent.TheVariants as event
use Rattle.run_record.specs.declared.pieces.Piece.{Piece}
use Rattle.run_record.specs.declared.pieces.Piece.TheVariants as piece

-- so many steps, each followed by a tick
abbrev pub rounds : ℕ → List RunEvent
rounds zero = []
rounds (suc n) = event.Step ∷ event.Tick ∷ rounds n

-- one step more, or none
abbrev pub last_step : Bool → List RunEvent
last_step stepped = if stepped then event.Step ∷ [] else []

-- the events of a piece, in order
abbrev pub events_of : Piece → List RunEvent
events_of (piece.Login line program) = event.Login line program ∷ []
events_of (piece.Start job) = event.Start job ∷ []
events_of (piece.Continue job) = event.Continue job ∷ []
events_of (piece.Kill job) = event.Kill job ∷ []
events_of piece.Restart = event.Restart ∷ []
events_of (piece.Rounds n stepped) = rounds n ++ last_step stepped
events_of (piece.Ticks n) = replicate n event.Tick
events_of (piece.Typed line text) = map (event.Typed line) text.items
events_of (piece.Take line) = event.Take line ∷ []

-- the events of pieces, in order
abbrev pub events_in : List Piece → List RunEvent
events_in pieces = flat_map events_of pieces
