use Rattle.std.proofs.Common.{◌≡◌, ◌++◌, drop}
use Rattle.std.specs.List.{flat_map}
use Rattle.macro_output.specs.Rows.{blank_before}
use Rattle.macro_output.proofs.rows.push_blanks.Given as goal

abbrev pub invariant-loop-worth : goal.invariant-loop-worth
invariant-loop-worth l =
    l.out.items ++ flat_map (blank_before l.number) (drop l.worth-index l.worths)
    ≡ l.initial.out.items ++ flat_map (blank_before l.number) l.worths
