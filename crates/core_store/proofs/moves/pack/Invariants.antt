use Rattle.std.proofs.Common.{◌≡◌, ◌+◌, length}
use Rattle.core_store.specs.Layout.{cores_in, blocks_in, IsLaidOut}
use Rattle.core_store.proofs.Packing.{blocks_from, ArePacked}
use Rattle.core_store.proofs.moves.pack.Given as goal

abbrev pub invariant-loop-block : goal.invariant-loop-block
invariant-loop-block l = record {
  jobs : length l.areas ≡ length l.initial.areas;
  laid_out : IsLaidOut (length l.words) l.areas;
  cores : cores_in l.words l.areas ≡ cores_in l.initial.words l.initial.areas;
  packed : ArePacked l.block l.packed l.areas;
  rest : l.packed + blocks_from l.block l.areas ≡ blocks_in l.areas;
}
