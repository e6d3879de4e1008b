use Rattle.std.proofs.Common.{◌∙◌, ap}
use Rattle.lock_queue.specs.Jobs.{released}
use Rattle.lock_table.specs.Seen.{Seen}
use Rattle.lock_table.proofs.Wholes.{released_is, seen_whole}
use Rattle.lock_table.proofs.indexed.IndexedTableLockTable.release.Goals as goal

pub invariant_of-self-inside : goal.invariant_of-self-inside
invariant_of-self-inside g c = seen_whole g.row.REQS c.release.new.self.store c.release.new.self.keys c.self.inside.sized c.release.ensures.whole

pub returns : goal.returns
returns g c =
    released_is c.self.inside.table.store c.release.new.self.store c.args.job c.release.ensures.left
    ∙ ap (λ (v : Seen g.row.REQS). released v.requests c.args.job) c.self.view_is
