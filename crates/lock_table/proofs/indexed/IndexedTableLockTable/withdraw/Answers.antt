use Rattle.std.proofs.Common.{◌∙◌, ap}
use Rattle.lock_queue.specs.Jobs.{is_one, withdrawn}
use Rattle.lock_table.proofs.Telling.{marks_grants}
use Rattle.lock_table.specs.Seen.{Seen}
use Rattle.lock_table.proofs.Wholes.{seen_whole, withdrawn_is}
use Rattle.lock_table.proofs.indexed.IndexedTableLockTable.withdraw.Goals as goal

pub invariant_of-self-inside : goal.invariant_of-self-inside
invariant_of-self-inside g c = seen_whole g.row.REQS c.release.new.self.store c.release.new.self.keys c.self.inside.sized c.release.ensures.whole

pub returns : goal.returns
returns g c =
    withdrawn_is c.self.inside.table.store c.release.new.self.store (is_one c.args.job)
    (marks_grants c.self.inside.table.store c.self.inside.table.keys c.self.invariant.table) c.release.ensures.left
    ∙ ap (λ (v : Seen g.row.REQS). withdrawn v.requests c.args.job) c.self.view_is
