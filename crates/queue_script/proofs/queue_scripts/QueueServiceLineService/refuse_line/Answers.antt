use Rattle.queue_script.proofs.LongLines.{too_long}
use Rattle.queue_script.proofs.queue_scripts.QueueServiceLineService.refuse_line.Goals as goal

pub returns : goal.returns
returns g c =
    λ line more long. too_long g.L.LockTable.REQS (g.L.LockTable.requests c.args.self.now.table) _ _ _ line more c.requires long
    c.in_ok-push_fault.ensures
