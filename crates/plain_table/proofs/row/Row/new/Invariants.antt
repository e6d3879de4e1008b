use Rattle.std.proofs.Common.{◌≡◌, ◌≤◌, vec_len}
use Rattle.plain_table.proofs.row.Row.new.Given as goal

abbrev pub invariant-loop : goal.invariant-loop
invariant-loop g l = (vec_len l.slots ≡ l.counter) × (l.counter ≤ l.end)
