use Rattle.std.specs.Prelude.{IsTrue}
use Rattle.ten.proofs.history.History.report.Given as goal

abbrev pub invariant-loop-i : goal.invariant-loop-i
invariant-loop-i l = IsTrue l.errors.is_whole → IsTrue l.initial.errors.is_whole
