-- What a step toward the next character does.
use Rattle.std.specs.Prelude.{◌≡◌, ℕ, ◌+◌, ◌<◌, ◌⊎◌, List, length, Option, Some, None, Result, Ok, Err}
use Rattle.macro_stream.specs.Standing.{Event, standing, settled, rounds_begun, next_of}
use Rattle.macro_stream.specs.declared.stream.Stream.{Stream}
use Rattle.macro_stream.specs.declared.stream.Step.{Step}
use Rattle.macro_stream.specs.declared.stream.Step.TheVariants.{Character, Ended, Passed}
use Rattle.macro_stream.specs.declared.stops.Stop.{Stop}
use Rattle.macro_stream.specs.declared.stops.Stop.TheVariants as stops

-- between two counts of calls and what comes up at each: something other than a character is passed, so that the next
-- character and its limits stay what they are
pub record Passes (c : ℕ) (old : List Event) (d : ℕ) (new : List Event) : Type 0 where
  pub told : next_of c old ≡ next_of d new
  pub left : settled old ≡ settled new
  pub counted : c + rounds_begun old ≡ d + rounds_begun new
  pub shorter : length new < length old

-- nothing is passed, and this is what comes next
pub record Stands (c : ℕ) (old : List Event) (d : ℕ) (new : List Event) (next : Option ℕ) : Type 0 where
  pub told : next_of c old ≡ Ok next
  pub left : settled old ≡ new
  pub counted : c + rounds_begun old ≡ d

abbrev pub StepGives : Stream → Stream → Result Step Stop → Type 0
StepGives old new (Ok (Character c)) = Stands old.calls (standing old) new.calls (standing new) (Some c)
StepGives old new (Ok Ended) = Stands old.calls (standing old) new.calls (standing new) None
StepGives old new (Ok Passed) = Passes old.calls (standing old) new.calls (standing new)
StepGives old new (Err stop) = (stop ≡ stops.Memory) ⊎ (next_of old.calls (standing old) ≡ Err stop)
