use Rattle.lock_table.specs.Reads.{request_at}
use Rattle.std.proofs.Common.{◌∙◌, ap, map}
use Rattle.lock_table.proofs.Wholes.{seen_whole, none_stay}
use Rattle.lock_table.proofs.indexed.IndexedTableLockTable.clear.Goals as goal

pub invariant_of-self-inside : goal.invariant_of-self-inside
invariant_of-self-inside g c = seen_whole g.row.REQS c.release.new.self.store c.release.new.self.keys c.self.inside.sized c.release.ensures.whole

pub returns : goal.returns
returns g c =
    ap (map (request_at c.release.new.self.store)) (c.release.ensures.left.order ∙ none_stay c.self.inside.table.store.order)
