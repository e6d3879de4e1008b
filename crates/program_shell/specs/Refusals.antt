-- Why arguments are refused (this project's profile).
use Rattle.std.specs.Prelude.{◌≡◌, ◌≢◌}
use Rattle.clap.specs.declared.error.kind.ErrorKind.{ErrorKind}
use Rattle.clap.specs.declared.error.kind.ErrorKind.TheVariants as kind
use Rattle.program_shell.specs.declared.refusal.Refusal.{Refusal}
use Rattle.program_shell.specs.declared.refusal.Refusal.TheVariants.{Memory, Usage}

-- Memory for want of memory, and Usage for the other kinds
abbrev pub IsKind : Refusal → ErrorKind → Type 0
IsKind Memory k = k ≡ kind.OutOfMemory
IsKind (Usage e) k = k ≢ kind.OutOfMemory
