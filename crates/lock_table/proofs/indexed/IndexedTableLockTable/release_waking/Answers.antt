use Rattle.std.proofs.Common.{◌∙◌, ap}
use Rattle.lock_queue.specs.Grants.{woken_by_release}
use Rattle.lock_queue.specs.Jobs.{released}
use Rattle.lock_table.specs.Seen.{Seen}
use Rattle.lock_table.proofs.Wholes.{released_is, seen_whole, woken_released}
use Rattle.lock_table.proofs.indexed.IndexedTableLockTable.release_waking.Goals as goal

pub invariant_of-self-inside : goal.invariant_of-self-inside
invariant_of-self-inside g c = seen_whole g.row.REQS c.release.new.self.store c.release.new.self.keys c.self.inside.sized c.release.ensures.whole

pub returns-clause-requests : goal.returns-clause-requests
returns-clause-requests g c =
    released_is c.self.inside.table.store c.release.new.self.store c.args.job c.release.ensures.left
    ∙ ap (λ (v : Seen g.row.REQS). released v.requests c.args.job) c.self.view_is

pub returns-clause-woken : goal.returns-clause-woken
returns-clause-woken g c =
    c.fill_woken.ensures
    ∙ woken_released c.self.inside.table.store c.release.new.self.store c.self.inside.table.keys c.release.new.self.keys c.args.job
    c.clear.new.self c.release.new.self.flips c.self.invariant.table c.release.ensures.whole.table c.clear.ensures c.release.ensures.flips
    c.release.ensures.whole.right c.release.ensures.left
    ∙ ap (λ (v : Seen g.row.REQS). woken_by_release v.requests c.args.job) c.self.view_is
