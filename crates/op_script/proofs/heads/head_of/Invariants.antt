use Rattle.std.proofs.Common.{◌≡◌, ◌≤◌, length}
use Rattle.word36.specs.declared.sizes.TheConstants.{MOST_BLOCKS}
use Rattle.machine.specs.declared.sizes.TheConstants.{MOST_QUANTUM}
use Rattle.op_script.specs.Heads.{head_from, head_of}
use Rattle.op_script.proofs.heads.head_of.Given as goal

abbrev pub invariant-loop-name : goal.invariant-loop-name
invariant-loop-name l = record {
  blocks : l.blocks ≤ MOST_BLOCKS;
  quantum : l.quantum ≤ MOST_QUANTUM;
  rest : head_from l.blocks l.quantum l.items ≡ head_of l.line;
}

abbrev pub decreases-loop-name : goal.decreases-loop-name
decreases-loop-name l = length l.items
