use Rattle.std.proofs.Common.{◌≡◌, ◌++◌}
use Rattle.run_record.specs.Pieces.{events_in}
use Rattle.orders_program.specs.Begun.{logins, starts}
use Rattle.orders_program.proofs.loading.beginning.Given as goal

abbrev pub invariant-loop-line : goal.invariant-loop-line
invariant-loop-line l = events_in l.events ≡ logins l.line

abbrev pub invariant-loop-line-2 : goal.invariant-loop-line-2
invariant-loop-line-2 l = events_in l.events ≡ logins l.count ++ starts l.line
