use Rattle.std.proofs.Common.{◌≡◌, ◌++◌, drop}
use Rattle.program_files.specs.Recorded.{programs_text}
use Rattle.program_files.proofs.recorded.push_programs.Given as goal

-- the programs so far and those to come are all
abbrev pub invariant-loop-i : goal.invariant-loop-i
invariant-loop-i l =
    l.script.items ++ programs_text l.number (drop l.i l.files) (drop l.i l.programs) ≡ l.fn.script.items ++ programs_text 1 l.files l.programs
