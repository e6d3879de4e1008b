use Rattle.std.proofs.Common.{◌≡◌, drop}
use Rattle.orders_program.specs.Begun.{all_started}
use Rattle.orders_program.proofs.loading.start_all.Given as goal

-- what is left leads where all of it does
abbrev pub invariant-loop : goal.invariant-loop
invariant-loop l = all_started l.number (drop l.index l.programs) l.system ≡ all_started 1 l.programs l.fn.system
