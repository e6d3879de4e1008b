use Rattle.std.proofs.Common.{◌≡◌, drop}
use Rattle.std.specs.List.{list_all}
use Rattle.lock_queue.specs.WellFormed.{is_in_range}
use Rattle.lock_table.proofs.enqueues.are_in_range.Given as goal

abbrev pub invariant-loop-w : goal.invariant-loop-w
invariant-loop-w l = list_all is_in_range (drop l.w-index l.wants) ≡ list_all is_in_range l.wants
