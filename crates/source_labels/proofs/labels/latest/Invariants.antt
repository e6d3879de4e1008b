use Rattle.std.proofs.Common.{◌≡◌, ◌≤◌, All, Contains, IfSome, None, drop, take}
use Rattle.source_labels.specs.Labels.{latest_from, reach}
use Rattle.source_labels.proofs.Nearby.{reach_by}
use Rattle.source_labels.proofs.labels.latest.Given as goal

-- the nearest of those so far
abbrev pub invariant-loop-label : goal.invariant-loop-label
invariant-loop-label l = record {
  value : latest_from l.place l.best (drop l.label-index l.labels) ≡ latest_from l.place None l.labels;
  empty : l.best ≡ None → l.label-index ≡ 0;
  there : IfSome l.best (λ b. Contains l.labels b);
  most : All (λ m. reach l.place m.place m.end ≤ reach_by l.place l.best) (take l.label-index l.labels);
}
