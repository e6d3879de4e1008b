use Rattle.std.proofs.Common.{◌≡◌, ◌++◌, ◌≤◌, ℕ, take, drop, map}
use Rattle.core_store.specs.Layout.{area_of, raised}
use Rattle.core_store.proofs.moves.raise.Given as goal

abbrev pub invariant-loop-area : goal.invariant-loop-area
invariant-loop-area l = record {
  done : take l.area-index l.areas ++ map (raised l.from l.by) (drop l.area-index l.areas) ≡ map (raised l.from l.by) l.initial.areas;
  rest : (k : ℕ) → l.area-index ≤ k → area_of l.areas k ≡ area_of l.initial.areas k;
}
