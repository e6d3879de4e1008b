use Rattle.orders_program.specs.Followed.{GoesTo}
use Rattle.orders_program.proofs.following.Following.let_sleep.Given as goal

abbrev pub invariant-loop : goal.invariant-loop
invariant-loop l = GoesTo l.fn.self l.self l.fn.self.machine
