use Rattle.std.proofs.Common.{sym, subst}
use Rattle.lock_queue.specs.Grants.{left_of}
use Rattle.lock_table.specs.Changing.{IsChanged}
use Rattle.lock_table.specs.Departures.{LeavesBy}
use Rattle.lock_table.proofs.Wholes.{changed_leaves}
use Rattle.lock_table.proofs.table.Table.make.Goals as goal

pub returns-in-Modify-clause-left : goal.returns-in-Modify-clause-left
returns-in-Modify-clause-left g c done =
    let is : IsChanged c.args.self.now.store c.modify.new.self.store c.args.job c.in-Modify.changes.items =
    subst (IsChanged c.args.self.now.store c.modify.new.self.store c.args.job) c.as_slice.ensures.value (c.modify.ensures.changed done) in
    subst (λ k. LeavesBy (left_of c.args.job k) c.args.self.now.store c.modify.new.self.store) (sym c.in-Modify.is)
    (changed_leaves c.args.self.now.store c.modify.new.self.store c.args.job c.in-Modify.changes is)
