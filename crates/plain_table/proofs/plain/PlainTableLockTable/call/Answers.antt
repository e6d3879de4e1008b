use Rattle.plain_table.proofs.plain.PlainTableLockTable.call.Goals as goal

pub invariant_of-self : goal.invariant_of-self
invariant_of-self g c = record { sized = c.args.self.now.sized; well = c.call.ensures.well c.args.self.now.well }
