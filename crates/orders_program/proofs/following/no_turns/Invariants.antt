use Rattle.std.proofs.Common.{◌≡◌, length}
use Rattle.orders_program.proofs.following.no_turns.Given as goal

abbrev pub invariant-loop : goal.invariant-loop
invariant-loop l = length l.ahead.items ≡ l.counter
