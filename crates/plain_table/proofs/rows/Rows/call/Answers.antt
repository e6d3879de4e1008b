use Rattle.std.proofs.Common.{◌≡◌, sym, subst, true}
use Rattle.lock_queue.specs.WellFormed.{are_well_formed}
use Rattle.lock_queue.proofs.WellKept.{well-modify, well-named, well-all, well-id}
use Rattle.plain_table.proofs.rows.Rows.call.Goals as goal

pub returns-in-Modify-clause-well : goal.returns-in-Modify-clause-well
returns-in-Modify-clause-well g c = λ well.
    subst (λ l. are_well_formed l ≡ true) (sym c.modify.ensures.requests) (well-modify g.row.REQS c.args.self.now.present c.args.job well _)

pub returns-in-DequeueNamed-clause-well : goal.returns-in-DequeueNamed-clause-well
returns-in-DequeueNamed-clause-well g c = λ well.
    subst (λ l. are_well_formed l ≡ true) (sym c.dequeue_named.ensures.requests) (well-named g.row.REQS c.args.self.now.present c.args.job well _)

pub returns-in-DequeueAll-clause-well : goal.returns-in-DequeueAll-clause-well
returns-in-DequeueAll-clause-well g c = λ well.
    subst (λ l. are_well_formed l ≡ true) (sym c.dequeue_all.ensures.requests) (well-all g.row.REQS c.args.self.now.present c.args.job well)

pub returns-in-DequeueId-clause-well : goal.returns-in-DequeueId-clause-well
returns-in-DequeueId-clause-well g c = λ well.
    subst (λ l. are_well_formed l ≡ true) (sym c.dequeue_id.ensures.requests) (well-id g.row.REQS c.args.self.now.present c.args.job well _)
