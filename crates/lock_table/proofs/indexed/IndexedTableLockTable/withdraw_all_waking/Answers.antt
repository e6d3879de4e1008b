use Rattle.std.proofs.Common.{◌∙◌, ap}
use Rattle.lock_queue.specs.Grants.{woken_by_withdrawal}
use Rattle.lock_queue.specs.Jobs.{is_among, withdrawn_all}
use Rattle.lock_table.proofs.Telling.{marks_grants}
use Rattle.lock_table.specs.Seen.{Seen}
use Rattle.lock_table.proofs.Wholes.{seen_whole, withdrawn_is, woken_withdrawn}
use Rattle.lock_table.proofs.indexed.IndexedTableLockTable.withdraw_all_waking.Goals as goal

pub invariant_of-self-inside : goal.invariant_of-self-inside
invariant_of-self-inside g c = seen_whole g.row.REQS c.release.new.self.store c.release.new.self.keys c.self.inside.sized c.release.ensures.whole

pub returns-clause-requests : goal.returns-clause-requests
returns-clause-requests g c =
    withdrawn_is c.self.inside.table.store c.release.new.self.store (is_among c.args.jobs)
    (marks_grants c.self.inside.table.store c.self.inside.table.keys c.self.invariant.table) c.release.ensures.left
    ∙ ap (λ (v : Seen g.row.REQS). withdrawn_all v.requests c.args.jobs) c.self.view_is

pub returns-clause-woken : goal.returns-clause-woken
returns-clause-woken g c =
    c.fill_woken.ensures
    ∙ woken_withdrawn c.self.inside.table.store c.release.new.self.store c.self.inside.table.keys c.release.new.self.keys
    c.clear.new.self c.release.new.self.flips c.self.invariant.table c.release.ensures.whole.table c.clear.ensures c.release.ensures.flips
    c.release.ensures.whole.right c.args.jobs c.release.ensures.left
    ∙ ap (λ (v : Seen g.row.REQS). woken_by_withdrawal v.requests c.args.jobs) c.self.view_is
