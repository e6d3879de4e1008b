-- Sources in a script of `lockmon run` (this project's profile).
use Rattle.std.specs.Prelude.{ℕ, List, codes, bytes_eq, length, nat_lt, Option, Some, None, if◌then◌else◌}
use Rattle.script_io.specs.Lines.{is_allowed}
use Rattle.script_io.specs.declared.line_sessions.TheConstants.{LINE_LENGTH}
use Rattle.run_record.specs.declared.quoting.Unquotable.{Unquotable}
use Rattle.run_record.specs.declared.quoting.Unquotable.TheVariants as reason

-- why a line of a source can be no line of a script between ASSEMBLE and ENDASM, if so
abbrev pub reason_of : List ℕ → Option Unquotable
reason_of line =
    if nat_lt LINE_LENGTH (length line) then Some reason.TooLong
    else (if is_allowed line then (if bytes_eq line (codes "ENDASM") then Some reason.EndsSource else None) else Some reason.NotAscii)
