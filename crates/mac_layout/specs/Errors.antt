-- The text of an error, and the error of a source that could not be read (this project's profile).
use Rattle.std.specs.Prelude.{ℕ, List, ◌++◌, codes, decimal}
use Rattle.mac_text.specs.declared.fault.ParseError.{ParseError}
use Rattle.mac_text.specs.declared.fault.ParseError.TheVariants as parse_errors
use Rattle.mac_layout.specs.declared.error.AsmCode.TheVariants.{Syntax}
use Rattle.mac_layout.specs.declared.error.AsmError.{AsmError}
use Rattle.mac_layout.specs.declared.error.AsmError.TheVariants as errors
use Rattle.mac_layout.specs.Faults.{number_of}

-- a line and its code, in decimal
abbrev pub error_text : AsmError → List ℕ
error_text (errors.Line line code) = codes "line " ++ decimal line ++ codes ": code " ++ decimal (number_of code)
error_text errors.Memory = codes "there is no memory"

-- the error of a source that could not be read
abbrev pub refusal_of : ParseError → AsmError
refusal_of parse_errors.Memory = errors.Memory
refusal_of (parse_errors.Syntax fault) = errors.Line fault.line Syntax
