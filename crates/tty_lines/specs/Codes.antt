use Rattle.std.specs.Prelude.{ℕ}
use Rattle.tty_lines.specs.declared.line_error.LineError.{LineError}
use Rattle.tty_lines.specs.declared.line_error.LineError.TheVariants.{NoLine, Full}

-- the number of a refusal (this project's profile)
abbrev pub code_of : LineError → ℕ
code_of NoLine = 1
code_of Full = 2
