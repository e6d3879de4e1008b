use Rattle.std.proofs.Common.{◌∙◌, ap}
use Rattle.lock_queue.specs.Jobs.{job_notified}
use Rattle.lock_table.specs.Seen.{Seen}
use Rattle.lock_table.proofs.Wholes.{seen_whole}
use Rattle.lock_table.proofs.indexed.IndexedTableLockTable.mark_notified.Goals as goal

pub invariant_of-self-inside : goal.invariant_of-self-inside
invariant_of-self-inside g c =
    seen_whole g.row.REQS c.mark_notified.new.store c.self.inside.table.keys c.self.inside.sized
    (c.mark_notified.ensures.whole g.row.REQS c.self.inside.table.keys c.self.invariant)

pub invariant_of-self : goal.invariant_of-self
invariant_of-self g c = c.mark_notified.ensures.whole g.row.REQS c.self.inside.table.keys c.self.invariant

pub returns : goal.returns
returns g c =
    c.mark_notified.ensures.requests c.self.inside.table.keys c.self.invariant.table ∙ ap (λ (v : Seen g.row.REQS). job_notified v.requests c.args.job) c.self.view_is
