use Rattle.std.proofs.Common.{◌≡◌, take, drop}
use Rattle.std.specs.List.{list_all}
use Rattle.lock_queue.specs.WellFormed.{is_in_range}
use Rattle.lock_queue.proofs.rewriting.write_wants.Given as goal

abbrev pub invariant-loop-w : goal.invariant-loop-w
invariant-loop-w l =
    record {
      copied : l.target.items ≡ take l.w-index l.w-items;
      range : list_all is_in_range (drop l.w-index l.w-items) ≡ list_all is_in_range l.w-items;
    }
