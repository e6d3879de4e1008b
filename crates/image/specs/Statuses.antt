-- The exit status of a command, by how it ended (this project's profile).
use Rattle.std.specs.Prelude.{ℕ, Result, Ok, Err}
use Rattle.program_shell.specs.declared.statuses.TheConstants.{DONE, FAILED, REFUSED}
use Rattle.image_service.specs.declared.endings.Ending.{Ending}
use Rattle.image_service.specs.declared.endings.Ending.TheVariants as endings
use Rattle.image.specs.declared.serving.Carried.{Carried}
use Rattle.image.specs.declared.serving.Stop.{Stop}

abbrev pub status_of_ending : Ending → ℕ
status_of_ending endings.Done = DONE
status_of_ending (endings.File fault other) = REFUSED
status_of_ending (endings.Source line code) = REFUSED

-- 0 where all is done, 1 where the input is refused, 3 where reading, writing or memory failed
abbrev pub status_for : Result Carried Stop → ℕ
status_for (Ok carried) = status_of_ending carried.ending
status_for (Err stop) = FAILED
