-- Steps in a row, with or without a tick after each (this project's profile).
use Rattle.std.specs.Prelude.{ℕ, suc, zero, Bool, true, false, List, [], ◌∷◌, count_by}
use Rattle.machine.specs.declared.event.Answer.{Answer}
use Rattle.machine.specs.declared.event.Answer.TheVariants.{Ran}
use Rattle.machine.specs.declared.event.Event.{Event}
use Rattle.machine.specs.declared.event.Event.TheVariants.{Step, Tick}
use Rattle.machine.specs.Machine.{answers}

-- so many steps, each followed by a tick where ticking
abbrev pub rounds : ℕ → Bool → List Event
rounds zero ticking = []
rounds (suc k) true = Step ∷ Tick ∷ rounds k true
rounds (suc k) false = Step ∷ rounds k false

abbrev pub has_run : Answer → Bool
has_run (Ran n) = true
has_run _ = false

-- how many of some answers are Ran
abbrev pub runs_in : List Answer → ℕ
runs_in answers = count_by has_run answers
