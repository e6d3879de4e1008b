use Rattle.std.proofs.Common.{arith}
use Rattle.lock_table.proofs.indexed.IndexedTableLockTable.new.Goals as goal

pub invariant_of-result-2 : goal.invariant_of-result-2
invariant_of-result-2 g c = grind arith
