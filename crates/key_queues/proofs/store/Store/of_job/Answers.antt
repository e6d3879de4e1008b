use Rattle.std.proofs.Common.{◌∙◌}
use Rattle.key_queues.proofs.Keeps.{list_is, list_read}
use Rattle.key_queues.proofs.store.Store.of_job.Goals as goal

pub returns : goal.returns
returns g c =
    let k = c.self.invariant in
    c.as_slice.ensures ∙ list_read _ _ _ _ _ _ k 0 c.args.job _ c.requires c.index.ensures
    ∙ list_is _ _ _ _ _ _ k c.args.self.now c.args.job c.self.view_is c.requires
