-- What a command does that stands for several events of the machine (this project's profile).
use Rattle.std.specs.Prelude.{ℕ, Bool, zero, suc, List, [], ◌∷◌, ◌++◌, length, nat_lt, Option, Some, None, if◌then◌else◌}
use Rattle.word36.specs.declared.sizes.TheConstants.{TAKEN_AT_ONCE}
use Rattle.machine.specs.Machine.{S, happens, after, answers}
use Rattle.machine.specs.Rounds.{rounds, runs_in}
use Rattle.machine.specs.declared.event.Answer.{Answer}
use Rattle.machine.specs.declared.event.Answer.TheVariants.{Text, Refused}
use Rattle.machine.specs.declared.event.Event.{Event}
use Rattle.machine.specs.declared.event.Event.TheVariants as event
use Rattle.machine.specs.declared.event.RefusedEvent.{RefusedEvent}

-- ---- STEP and RUN

-- the machine after so many steps, each followed by a tick if `ticking`
unfoldable pub after_steps : ℕ → Bool → S → S
after_steps most ticking s = after (rounds most ticking) s

-- in how many of them a job ran
unfoldable pub steps_run : ℕ → Bool → S → ℕ
steps_run most ticking s = runs_in (answers (rounds most ticking) s)

-- ---- TYPE

-- the machine where characters were typed, and the refusal of the last, if it was refused
pub record Typing : Type 0 where
  pub machine : S
  pub refusal : Option RefusedEvent

abbrev pub refusal_in : Answer → Option RefusedEvent
refusal_in (Refused r) = Some r
refusal_in _ = None

-- a character that was not refused is followed by the others
abbrev pub typed_with : S → Option RefusedEvent → Typing → Typing
typed_with s (Some r) rest = record { machine = s; refusal = Some r }
typed_with s None rest = rest

-- characters are typed at a line, up to the first that is refused
unfoldable pub typed_by : List ℕ → S → ℕ → Typing
typed_by [] s line = record { machine = s; refusal = None }
typed_by (c ∷ more) s line =
    let m = happens s (event.Typed line c) in typed_with m.state (refusal_in m.answer) (typed_by more m.state line)

-- ---- TAKE

-- the machine where characters were taken, what they are, and the refusal, if there was one
pub record Taking : Type 0 where
  pub machine : S
  pub text : List ℕ
  pub refusal : Option RefusedEvent

-- a text that is shorter than one event may give is the last
abbrev pub taken_with : S → Answer → Taking → Taking
taken_with s (Text text) rest =
    if nat_lt (length text) TAKEN_AT_ONCE then record { machine = s; text = text; refusal = None }
    else record rest { text = text ++ rest.text }
taken_with s (Refused r) rest = record { machine = s; text = []; refusal = Some r }
taken_with s _ rest = record { machine = s; text = []; refusal = None }

-- what a Take event of 64 characters takes if it happens at most so many times, until it takes fewer
unfoldable pub taken_by : ℕ → Event → S → Taking
taken_by zero e s = record { machine = s; text = []; refusal = None }
taken_by (suc times) e s = let m = happens s e in taken_with m.state m.answer (taken_by times e m.state)
