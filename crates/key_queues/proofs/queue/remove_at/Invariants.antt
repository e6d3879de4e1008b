-- The numbers so far are those of the list without the i-th; the others are where they were.
use Rattle.std.proofs.Common.{◌≡◌, ◌≤◌, ◌<◌, ℕ, get_or}
use Rattle.std.specs.List.{remove}
use Rattle.key_queues.proofs.queue.remove_at.Given as goal

abbrev pub invariant-loop-k : goal.invariant-loop-k
invariant-loop-k g l = record {
  done : (m : ℕ) → m < l.k → get_or l.numbers m 0 ≡ get_or (remove l.fn.list.items l.fn.i) m 0;
  rest : (m : ℕ) → l.k ≤ m → get_or l.numbers m 0 ≡ get_or l.fn.list.items m 0;
}
