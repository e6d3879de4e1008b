-- The columns of pictures (this project's profile).
use Rattle.std.specs.Prelude.{ℕ, ◌++◌, ◌==◌, List, codes, decimal, if◌then◌else◌}
use Rattle.lock_bars.specs.declared.columns.Column.{Column}

-- a column by its line, and by its tick where the line runs several
abbrev pub column_text : Column → List ℕ
column_text column =
    if column.tick == 0
    then decimal column.line
    else decimal column.line ++ codes " (tick " ++ decimal column.tick ++ codes ")"
