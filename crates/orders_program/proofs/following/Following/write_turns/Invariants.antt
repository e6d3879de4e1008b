use Rattle.orders_program.specs.Followed.{GoesTo}
use Rattle.orders_program.proofs.following.Following.write_turns.Given as goal

abbrev pub invariant-loop-turn : goal.invariant-loop-turn
invariant-loop-turn l = GoesTo l.fn.self l.self l.fn.self.machine
