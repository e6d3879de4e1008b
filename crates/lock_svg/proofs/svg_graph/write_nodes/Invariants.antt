use Rattle.std.proofs.Common.{◌≡◌, ◌-◌, ◌++◌, List, ℕ}
use Rattle.std.specs.Fmt.{HasWritten, IsPlainFormatter}
use Rattle.std.specs.List.{flat_map}
use Rattle.lock_queue.specs.Waits.{numbers_from}
use Rattle.lock_svg.specs.Graphs.{node_text, nodes_text}
use Rattle.wait_graph.specs.declared.pairs.TheConstants.{NUMBERS}
use Rattle.lock_svg.proofs.svg_graph.write_nodes.Given as goal

-- the jobs so far are written, and those of greater numbers are to come
abbrev pub invariant-loop-job : goal.invariant-loop-job
invariant-loop-job g l =
    IsPlainFormatter l.initial.f
    → (written : List ℕ) × HasWritten g.W.Write.write_str_gives l.initial.f written l.f
    × (written ++ flat_map (node_text l.frame l.graph) (numbers_from l.job (NUMBERS - l.job)) ≡ nodes_text l.frame l.graph)
