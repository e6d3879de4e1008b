-- All that has happened to a machine, as single things, and where in their list the machine stands (this project's profile).
use Rattle.std.specs.Prelude.{ℕ, ◌++◌, ◌==◌, nat_le, nat_lt, ◌||◌, Bool, true, List, [], ◌∷◌, take, drop, length, replicate}
use Rattle.machine.specs.Machine.{S}
use Rattle.ddt_timeline.specs.declared.entries.Entry.{Entry}
use Rattle.ddt_timeline.specs.declared.entries.Entry.TheVariants.{Rounds, Login, Start, Continue, Kill, Typed, Take, Ticks}
use Rattle.ddt_timeline.specs.declared.entries.Entry.TheVariants.{Deposit, StartAt, Execute}
use Rattle.ddt_timeline.specs.Timelines.{played, steps_of}

-- a step with its tick
abbrev pub one_step : Entry
one_step = Rounds 1

-- the single things of an entry: each of its steps with its tick, each of its ticks, or the one event or change that it is
abbrev pub things_of : Entry → List Entry
things_of (Rounds n) = replicate n one_step
things_of (Login line image) = Login line image ∷ []
things_of (Start n) = Start n ∷ []
things_of (Continue n) = Continue n ∷ []
things_of (Kill n) = Kill n ∷ []
things_of (Typed line c) = Typed line c ∷ []
things_of (Take line) = Take line ∷ []
things_of (Ticks n) = replicate n (Ticks 1)
things_of (Deposit n a word) = Deposit n a word ∷ []
things_of (StartAt n a) = StartAt n a ∷ []
things_of (Execute n word) = Execute n word ∷ []

-- the single things of some entries
abbrev pub things_in : List Entry → List Entry
things_in [] = []
things_in (e ∷ es) = things_of e ++ things_in es

-- a machine at boot, the things that have happened to it, and those ahead: they happened before it was put back
pub record History : Type 0 where
  pub boot : S
  pub past : List Entry
  pub ahead : List Entry

-- all things, those that have happened and those ahead: the machine stands where the past ends
abbrev pub everything : History → List Entry
everything h = h.past ++ h.ahead

-- the machine: what has happened, from boot on
abbrev pub machine_of : History → S
machine_of h = played h.past h.boot

-- nothing is ahead any more
abbrev pub cut : History → History
cut h = record { boot = h.boot; past = h.past; ahead = [] }

-- some things happen, and what was ahead is forgotten
abbrev pub done : History → List Entry → History
done h things = record { boot = h.boot; past = h.past ++ things; ahead = [] }

-- all that was ahead has happened
abbrev pub at_end : History → History
at_end h = record { boot = h.boot; past = everything h; ahead = [] }

-- whether a step is the first of some things, or there is none
abbrev pub is_before_step : List Entry → Bool
is_before_step [] = true
is_before_step (e ∷ es) = nat_lt 0 (steps_of e)

-- whether so many steps are fewer than the first of some entries has, or there are neither
abbrev pub is_place : List Entry → ℕ → Bool
is_place [] part = part == 0
is_place (e ∷ es) part = nat_lt part (steps_of e)

-- whether so many whole entries, and so many steps after them, are a place in some entries, or behind them all
abbrev pub is_place_in : List Entry → ℕ → ℕ → Bool
is_place_in es whole part = nat_le (length es) whole || is_place (drop whole es) part

-- the things of so many whole entries, and so many steps after them
abbrev pub past_in : List Entry → ℕ → ℕ → List Entry
past_in es whole part = things_in (take whole es) ++ replicate part one_step

-- the things behind them
abbrev pub ahead_in : List Entry → ℕ → ℕ → List Entry
ahead_in es whole part = drop part (things_in (drop whole es))

abbrev pub the_history : S → List Entry → List Entry → History
the_history boot past ahead = record { boot = boot; past = past; ahead = ahead }

-- the history from a state at boot on, where so many whole entries have happened, and so many steps after them
abbrev pub history_of : S → List Entry → ℕ → ℕ → History
history_of boot es whole part = the_history boot (past_in es whole part) (ahead_in es whole part)
