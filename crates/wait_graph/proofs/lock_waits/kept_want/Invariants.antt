use Rattle.std.proofs.Common.{◌≡◌, drop}
use Rattle.std.specs.List.{find, list_any}
use Rattle.wait_graph.specs.LockWaits.{keeps}
use Rattle.wait_graph.proofs.lock_waits.kept_want.Given as goal

abbrev pub invariant-loop-want : goal.invariant-loop-want
invariant-loop-want l = record {
  some : list_any (λ w. keeps l.is_held l.earlier w l.other) (drop l.want-index l.want-items)
      ≡ list_any (λ w. keeps l.is_held l.earlier w l.other) l.r.wants.items;
  first : find (λ w. keeps l.is_held l.earlier w l.other) (drop l.want-index l.want-items)
      ≡ find (λ w. keeps l.is_held l.earlier w l.other) l.r.wants.items;
}
