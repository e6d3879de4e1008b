use Rattle.std.proofs.Common.{ℕ, ◌≡◌, ◌<◌, false}
use Rattle.lock_table.specs.Flips.{mark_at}
use Rattle.lock_table.proofs.flips.clear_all.Given as goal

abbrev pub invariant-loop-i : goal.invariant-loop-i
invariant-loop-i l = (x : ℕ) → x < l.i → mark_at l.marks x ≡ false
