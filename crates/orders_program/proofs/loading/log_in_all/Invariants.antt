use Rattle.std.proofs.Common.{◌≡◌, drop}
use Rattle.orders_program.specs.Begun.{logged}
use Rattle.orders_program.proofs.loading.log_in_all.Given as goal

-- what is left leads where all of it does
abbrev pub invariant-loop-program : goal.invariant-loop-program
invariant-loop-program l = logged l.line (drop l.program-index l.programs) l.system ≡ logged 0 l.programs l.fn.system
