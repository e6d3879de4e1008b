-- The wants so far, and then those of the locks that are left, are the wants of all.
use Rattle.std.proofs.Common.{◌≡◌, ◌≤◌, ◌+◌, ◌-◌, ◌*◌, true, take}
use Rattle.std.specs.List.{list_all}
use Rattle.arrayvec.specs.ArrayVec.{array_vec_len}
use Rattle.lock_queue.specs.WellFormed.{shares_rightly}
use Rattle.call_block.specs.Blocks.{wants_at}
use Rattle.call_block.proofs.WantLemmas.{behind}
use Rattle.call_block.proofs.block.read_wants.Given as goal

abbrev pub invariant-loop-position : goal.invariant-loop-position
invariant-loop-position g l =
    record {
      read :
          wants_at l.fn.regs.ac (g.M.ReadMemory.words l.fn.memory) l.fn.job l.fn.block_use l.fn.first l.fn.count
          ≡ behind (take l.position l.wants.items)
          (wants_at l.fn.regs.ac (g.M.ReadMemory.words l.fn.memory) l.fn.job l.fn.block_use (l.fn.first + 3 * l.position) (l.fn.count - l.position));
      long : l.position ≤ array_vec_len l.wants;
      unshared : list_all shares_rightly (take l.position l.wants.items) ≡ true;
    }
