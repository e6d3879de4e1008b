use Rattle.std.proofs.Common.{◌≡◌, ◌≤◌, take}
use Rattle.macro_output.specs.Rows.{without_end}
use Rattle.macro_output.proofs.rows.end_of.Given as goal

abbrev pub invariant-loop-index : goal.invariant-loop-index
invariant-loop-index l = record { within : l.end ≤ l.index; text : take l.end l.line ≡ without_end (take l.index l.line) }
