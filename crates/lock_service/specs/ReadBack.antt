-- What is read of a want can be asked for again.
use Rattle.std.specs.Prelude.{ℕ, Bool, true, ◌==◌, List, length, Option}
use Rattle.lock_queue.specs.declared.key.Scope.{Scope}
use Rattle.lock_queue.specs.declared.key.Scope.TheVariants.{All, Job}
use Rattle.lock_queue.specs.declared.name.Name.{Name}
use Rattle.lock_queue.specs.declared.name.Name.TheVariants.{Text, Code}
use Rattle.lock_queue.specs.Names.{filled_up}
use Rattle.lock_service.specs.Spelled.{text_of, code_of}

-- whether a job spells names of this scope: those of all jobs, and its own
abbrev pub spells : ℕ → Scope → Bool
spells job All = true
spells job (Job owner) = owner == job

-- the name that is read from what is shown of a name
abbrev pub read_again : Name → Option Name
read_again (Text text) = text_of (filled_up text) (length text)
read_again (Code number) = code_of number
