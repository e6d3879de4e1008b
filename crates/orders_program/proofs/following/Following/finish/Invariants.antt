use Rattle.orders_program.specs.Followed.{GoesTo}
use Rattle.orders_program.proofs.following.Following.finish.Given as goal

abbrev pub invariant-loop-k : goal.invariant-loop-k
invariant-loop-k l = GoesTo l.fn.self l.self l.fn.self.machine
