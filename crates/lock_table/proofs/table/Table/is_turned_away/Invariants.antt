use Rattle.std.proofs.Common.{◌≡◌, drop}
use Rattle.std.specs.List.{list_all}
use Rattle.lock_queue.specs.Queue.{fits}
use Rattle.lock_table.specs.Whole.{requests_in}
use Rattle.lock_table.proofs.table.Table.is_turned_away.Given as goal

abbrev pub invariant-loop-k : goal.invariant-loop-k
invariant-loop-k g l = list_all (fits (requests_in l.self.store)) (drop l.k l.wants) ≡ list_all (fits (requests_in l.self.store)) l.wants
