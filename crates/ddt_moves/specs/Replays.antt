-- What has happened to a machine, made once more, and what is found in its steps (this project's profile).
use Rattle.std.specs.Prelude.{◌≡◌, ◌≤◌, ◌-◌, ◌^◌, ◌++◌, ℕ, zero, suc, nat_lt, not, min, Bool, true, false, if◌then◌else◌}
use Rattle.std.specs.Prelude.{List, [], ◌∷◌, replicate, Option, Some, IfSome}
use Rattle.machine.specs.Machine.{S}
use Rattle.machine.specs.Views.{job_view, word_in}
use Rattle.ddt_timeline.specs.declared.entries.Entry.{Entry}
use Rattle.ddt_timeline.specs.Histories.{History, one_step, things_in}
use Rattle.ddt_timeline.specs.Stops.{is_word, round, stands_at}
use Rattle.ddt_timeline.specs.Timelines.{made, played, steps_in, steps_of}
use Rattle.ddt_moves.specs.declared.replays.Replay.{Replay}

-- the machine of a replay
abbrev pub machine_in : Replay → S
machine_in r = r.machine

-- how many steps it has made
abbrev pub steps_made : Replay → ℕ
steps_made r = r.steps

-- the single things that are still to happen
abbrev pub to_come : Replay → List Entry
to_come r = replicate r.left one_step ++ (things_in r.entries.now ++ replicate r.part one_step)

-- whether a step is next, with nothing before it
abbrev pub is_ready : Replay → Bool
is_ready r = nat_lt 0 r.left

-- some things from the first step on
abbrev pub from_step : List Entry → List Entry
from_step [] = []
from_step (e ∷ es) = if nat_lt 0 (steps_of e) then e ∷ es else from_step es

-- the state before the first step of some things, or behind them all
abbrev pub before_step : List Entry → S → S
before_step [] s = s
before_step (e ∷ es) s = if nat_lt 0 (steps_of e) then s else before_step es (made s e)

-- the single things behind the first so many steps of some
abbrev pub behind_steps : ℕ → List Entry → List Entry
behind_steps zero es = es
behind_steps (suc n) [] = []
behind_steps (suc n) (e ∷ es) = behind_steps (if nat_lt 0 (steps_of e) then n else suc n) es

-- the state behind the first so many steps of some single things, or behind them all where they have fewer
abbrev pub after_steps : ℕ → List Entry → S → S
after_steps zero es s = s
after_steps (suc n) [] s = s
after_steps (suc n) (e ∷ es) s = after_steps (if nat_lt 0 (steps_of e) then n else suc n) es (made s e)

-- how many steps some things have, or 2 ^ 64 - 1 where there are more
abbrev pub counted : List Entry → ℕ
counted things = min (2 ^ 64 - 1) (steps_in things)

-- whether a step is the first of some things
abbrev pub is_at_step : List Entry → Bool
is_at_step [] = false
is_at_step (e ∷ es) = nat_lt 0 (steps_of e)

-- in a history with this past, something held of the machine before a step with so many before it
pub record HeldBefore (p : S → Bool) (boot : S) (past : List Entry) (n : ℕ) : Type 0 where
  pub before : List Entry
  pub later : List Entry
  pub parts : before ++ later ≡ past
  pub step : is_at_step later ≡ true
  pub steps : counted before ≡ n
  pub held : p (played before boot) ≡ true

-- it held before the step with so many before it, and before none behind that one; or it held before none
pub record IsLastHeld (p : S → Bool) (boot : S) (past : List Entry) (found : Option ℕ) : Type 0 where
  pub held : IfSome found (λ n. HeldBefore p boot past n)
  pub none_later : (n : ℕ) → HeldBefore p boot past n → (m : ℕ) × (found ≡ Some m) × (n ≤ m)

-- the last step of what has happened before which something held of the machine
abbrev pub IsLastIn : (S → Bool) → History → Option ℕ → Type 0
IsLastIn p h found = IsLastHeld p h.boot h.past found

-- a number in place of an earlier one, where something held
abbrev pub newer : Bool → ℕ → Option ℕ → Option ℕ
newer true n last = Some n
newer false n last = last

-- whether a job stands at an address, and is not stopped
abbrev pub stood : ℕ → ℕ → S → Bool
stood job address s = stands_at (job_view s.world job) address

-- whether the next step, with its tick, changes the word of a job at an address
abbrev pub changes : ℕ → ℕ → S → Bool
changes job address s = not (is_word (word_in (round s).world job address) (word_in s.world job address))
