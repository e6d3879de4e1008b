use Rattle.std.proofs.Common.{◌∙◌, sym, ap}
use Rattle.arrayvec.specs.ArrayVec.{ArrayVec}
use Rattle.lock_queue.specs.declared.grant.Grant.{Grant}
use Rattle.lock_queue.specs.Grants.{woken_by}
use Rattle.lock_table.specs.Whole.{requests_in}
use Rattle.lock_table.specs.Seen.{Seen}
use Rattle.lock_table.proofs.Wholes.{quiet, seen_whole, woken_done}
use Rattle.lock_table.proofs.indexed.IndexedTableLockTable.call_waking.Goals as goal
use Rattle.lock_table.proofs.indexed.IndexedTableLockTable.call_waking.Goals.{in-Done, in_default}

pub invariant_of-self-inside : goal.invariant_of-self-inside
invariant_of-self-inside g c =
    seen_whole g.row.REQS c.make-reply.new.self.store c.make-reply.new.self.keys c.self.inside.sized c.make-reply.ensures.whole

pub returns-clause-woken : goal.returns-clause-woken
returns-clause-woken g c =
    elim c.match-reply.branch [
      | in-Done w ↦
          ap (λ (v : ArrayVec Grant). v.items) w.woken-is ∙ w.fill_woken.ensures
          ∙ woken_done c.self.inside.table.store c.make-reply.new.self.store c.self.inside.table.keys c.make-reply.new.self.keys c.args.job
          c.clear.new.self c.make-reply.new.self.flips c.self.invariant.table c.make-reply.ensures.whole.table c.clear.ensures
          (c.make-reply.ensures.flips w.in-Done.is) c.make-reply.ensures.whole.right g.row.REQS c.args.call.now (c.make-reply.ensures.left w.in-Done.is)
          (sym c.make-reply.ensures.reply ∙ w.in-Done.is)
      | in_default w ↦
          ap (λ (v : ArrayVec Grant). v.items) w.woken-is ∙ w.clear-in_default.ensures
          ∙ quiet g.row.REQS (requests_in c.self.inside.table.store) c.args.job c.args.call.now (λ e. w.in_default.not-Done (c.make-reply.ensures.reply ∙ e))
    ]
    ∙ ap (λ (v : Seen g.row.REQS). woken_by g.row.REQS v.requests c.args.job c.args.call.now) c.self.view_is
