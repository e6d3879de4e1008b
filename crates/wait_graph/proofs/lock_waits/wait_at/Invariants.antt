use Rattle.std.proofs.Common.{◌≡◌, take, drop}
use Rattle.std.specs.List.{find, list_any}
use Rattle.wait_graph.specs.LockWaits.{has_keeper}
use Rattle.wait_graph.proofs.lock_waits.wait_at.Given as goal

abbrev pub invariant-loop-want : goal.invariant-loop-want
invariant-loop-want l = record {
  some : list_any (has_keeper l.is_held l.requests l.job (take l.position l.requests)) (drop l.want-index l.want-items)
      ≡ list_any (has_keeper l.is_held l.requests l.job (take l.position l.requests)) l.r.wants.items;
  first : find (has_keeper l.is_held l.requests l.job (take l.position l.requests)) (drop l.want-index l.want-items)
      ≡ find (has_keeper l.is_held l.requests l.job (take l.position l.requests)) l.r.wants.items;
}
