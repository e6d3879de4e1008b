use Rattle.std.proofs.Common.{◌≡◌, ◌≤◌, ◌==◌, ◌+◌, ◌-◌, drop, length}
use Rattle.std.specs.List.{position_or_len}
use Rattle.key_queues.proofs.slot_list.index_of.Given as goal

abbrev pub invariant-loop-i : goal.invariant-loop-i
invariant-loop-i l = record {
  within : l.i ≤ length l.list;
  rest : l.i + position_or_len (λ x. x == l.p) (drop l.i l.list) ≡ position_or_len (λ x. x == l.p) l.list;
}

abbrev pub decreases-loop-i : goal.decreases-loop-i
decreases-loop-i l = length l.list - l.i

abbrev pub invariant-loop-i-2 : goal.invariant-loop-i-2
invariant-loop-i-2 l = record {
  within : l.i ≤ length l.list;
  rest : l.i + position_or_len (λ x. x == l.p) (drop l.i l.list) ≡ position_or_len (λ x. x == l.p) l.list;
}

abbrev pub decreases-loop-i-2 : goal.decreases-loop-i-2
decreases-loop-i-2 l = length l.list - l.i
