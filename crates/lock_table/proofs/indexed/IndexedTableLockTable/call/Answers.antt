use Rattle.lock_table.proofs.Wholes.{seen_whole}
use Rattle.lock_table.proofs.indexed.IndexedTableLockTable.call.Goals as goal

pub invariant_of-self-inside : goal.invariant_of-self-inside
invariant_of-self-inside g c = seen_whole g.row.REQS c.make.new.self.store c.make.new.self.keys c.self.inside.sized c.make.ensures.whole
