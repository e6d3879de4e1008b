-- What every state of a machine keeps (this project's profile).
use Rattle.machine.specs.Machine.{S}
use Rattle.machine.specs.Safe.{Safe}
use Rattle.progress_laws.specs.Rounds.{HasJobs, KeepsTime, has_low_number}
use Rattle.progress_laws.specs.Wakes.{IsWellFormed}

-- A state is sound: it is safe, the scheduler keeps time, requests are well-formed, and no job has a number above the number of
-- lines. Safety is what the locks promise at all times; the laws of progress need the other three as well.
pub record IsSound (s : S) : Type 0 where
  pub safe : Safe s
  pub time : KeepsTime s
  pub well : IsWellFormed s
  pub low : HasJobs has_low_number s
