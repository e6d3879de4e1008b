use Rattle.std.proofs.Common.{◌≡◌, ◌-◌, ◌++◌, map}
use Rattle.std.specs.List.{All, flat_map}
use Rattle.lock_queue.specs.Waits.{numbers_from}
use Rattle.wait_graph.specs.declared.pairs.TheConstants.{NUMBERS}
use Rattle.lock_bars.specs.Arrows.{HasLock, wait_of, waits_in, waits_of}
use Rattle.lock_bars.proofs.arrows.arrows_in.Given as goal

abbrev pub invariant-loop-job : goal.invariant-loop-job
invariant-loop-job g l = record {
  waits :
      map wait_of l.arrows.items ++ flat_map (waits_of l.graph) (numbers_from l.job (NUMBERS - l.job)) ≡ waits_in l.graph;
  locks : All (HasLock l.requests.items) l.arrows.items;
}
