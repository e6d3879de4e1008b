use Rattle.std.proofs.Common.{◌≡◌, ◌++◌, take}
use Rattle.std.specs.List.{flat_map}
use Rattle.std.specs.Str.Lines.{lines}
use Rattle.lockcheck_program.specs.Reports.{line_answers}
use Rattle.lockcheck_program.proofs.report.push_answers.Given as goal

abbrev pub invariant-loop-i : goal.invariant-loop-i
invariant-loop-i l = l.out.items ≡ l.initial.out.items ++ flat_map (line_answers (lines l.script) l.all) (take l.i l.programs)
