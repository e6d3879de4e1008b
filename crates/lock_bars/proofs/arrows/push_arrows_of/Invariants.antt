use Rattle.std.proofs.Common.{◌≡◌, ◌-◌, ◌++◌, map}
use Rattle.std.specs.List.{All, flat_map}
use Rattle.lock_queue.specs.Waits.{numbers_from}
use Rattle.wait_graph.specs.Graphs.{wait_in}
use Rattle.wait_graph.specs.declared.pairs.TheConstants.{NUMBERS}
use Rattle.lock_bars.specs.Arrows.{HasLock, listed, wait_of, waits_of}
use Rattle.lock_bars.proofs.arrows.push_arrows_of.Given as goal

abbrev pub invariant-loop-other : goal.invariant-loop-other
invariant-loop-other l = record {
  waits :
      map wait_of l.arrows.items ++ flat_map (λ other. listed (wait_in l.graph l.job other)) (numbers_from l.other (NUMBERS - l.other))
      ≡ map wait_of l.initial.arrows.items ++ waits_of l.graph l.job;
  locks : All (HasLock l.requests) l.arrows.items;
}
