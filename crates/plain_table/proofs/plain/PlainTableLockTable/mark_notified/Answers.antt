use Rattle.std.proofs.Common.{◌≡◌, sym, subst, true}
use Rattle.lock_queue.specs.WellFormed.{are_well_formed}
use Rattle.lock_queue.proofs.WellKept.{well-notified}
use Rattle.plain_table.proofs.plain.PlainTableLockTable.mark_notified.Goals as goal

pub invariant_of-self : goal.invariant_of-self
invariant_of-self g c = record {
  sized = c.args.self.now.sized;
  well = subst (λ l. are_well_formed l ≡ true) (sym c.mark_notified.ensures) (well-notified c.args.self.now.rows.present c.args.job c.args.self.now.well);
}
