use Rattle.std.proofs.Common.{◌≡◌, sym, subst, true}
use Rattle.lock_queue.specs.Jobs.{is_among}
use Rattle.lock_queue.specs.WellFormed.{are_well_formed}
use Rattle.lock_queue.proofs.WellKept.{well-withdrawn}
use Rattle.plain_table.proofs.plain.PlainTableLockTable.withdraw_all.Goals as goal

pub invariant_of-self : goal.invariant_of-self
invariant_of-self g c = record {
  sized = c.args.self.now.sized;
  well =
      subst (λ l. are_well_formed l ≡ true) (sym c.withdraw_all.ensures)
      (well-withdrawn c.args.self.now.rows.present (is_among c.args.jobs) c.args.self.now.well);
}
