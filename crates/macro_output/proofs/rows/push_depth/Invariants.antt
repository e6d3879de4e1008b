use Rattle.std.proofs.Common.{◌≡◌, ◌++◌, replicate}
use Rattle.macro_output.proofs.rows.push_depth.Given as goal

abbrev pub invariant-loop : goal.invariant-loop
invariant-loop l = l.out.items ≡ l.initial.out.items ++ replicate l.counter 43
