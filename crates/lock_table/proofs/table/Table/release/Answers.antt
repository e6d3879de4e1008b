use Rattle.std.proofs.Common.{◌∙◌, arith}
use Rattle.lock_table.specs.Departures.{is_leaver_at, stays_beside}
use Rattle.lock_table.proofs.Telling.{any_some}
use Rattle.lock_table.proofs.Wholes.{leaves_where, whole_left}
use Rattle.lock_table.proofs.table.Table.release.Goals as goal

pub returns-clause-whole : goal.returns-clause-whole
returns-clause-whole g c =
    whole_left g.row.REQS c.args.self.now.store c.leave_all.new.self.store c.args.self.now.keys c.leave_all.new.self.keys
    (stays_beside c.as_slice.result.now) c.requires.whole c.leave_all.ensures.table c.leave_all.ensures.left

pub returns-clause-left : goal.returns-clause-left
returns-clause-left g c =
    leaves_where c.args.self.now.store c.leave_all.new.self.store (is_leaver_at c.args.self.now.store c.args.who.now) c.as_slice.result.now
    c.leave_all.ensures.left (c.as_slice.ensures.value ∙ c.gather.ensures)

pub returns-clause-some : goal.returns-clause-some
returns-clause-some g c =
    let leaver = is_leaver_at c.args.self.now.store c.args.who.now in
    grind (arith, any_some leaver c.args.self.now.store.order, c.gather.ensures, c.is_empty.ensures)
