use Rattle.std.proofs.Common.{◌≡◌, ◌<◌, length, take, map}
use Rattle.std.specs.Prelude.{All}
use Rattle.macro_faults.specs.declared.reports.Report.{Report}
use Rattle.macro_output.specs.declared.reports.FaultKey.{FaultKey}
use Rattle.macro_output.proofs.FaultKeys.{fault_of, IsKey}
use Rattle.macro_output.proofs.reports.sorted_faults.Given as goal

abbrev pub invariant-loop-index : goal.invariant-loop-index
invariant-loop-index l = record {
  faults : (d : Report) → map (fault_of l.faults d) l.keys.items ≡ take l.index l.faults;
  keys : (d : Report) → All (IsKey l.faults d) l.keys.items;
  within : All (λ (key : FaultKey). key.index < length l.faults) l.keys.items;
  count : length l.keys.items ≡ l.index;
}

abbrev pub invariant-loop-key : goal.invariant-loop-key
invariant-loop-key l = record {
  faults : (d : Report) → l.sorted.items ≡ map (fault_of l.faults d) (take l.key-index l.key-items);
  count : length l.sorted.items ≡ l.key-index;
}
