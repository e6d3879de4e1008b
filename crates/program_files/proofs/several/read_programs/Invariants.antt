use Rattle.std.proofs.Common.{◌≡◌, ◌≤◌, length, take}
use Rattle.program_files.specs.Reads.{AreProgramsOf}
use Rattle.program_files.proofs.several.read_programs.Given as goal

-- no more programs than files so far; if as many, these are the files' programs
abbrev pub invariant-loop-at : goal.invariant-loop-at
invariant-loop-at l = record {
  few : length l.programs.items ≤ l.at;
  all : length l.programs.items ≡ l.at → AreProgramsOf l.from (take l.at l.files) l.programs.items;
}
