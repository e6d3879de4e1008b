use Rattle.std.proofs.Common.{None}
use Rattle.key_queues.proofs.Contents.{key_there, seen_below, updates_seen}
use Rattle.key_queues.proofs.entry_slab.EntrySlab.remove.Goals as goal

pub returns-clause-contents : goal.returns-clause-contents
returns-clause-contents g c =
    updates_seen g.row.REQS c.self.inside.slab _ c.self.view_is c.args.p c.remove-entry.new.self None
    (seen_below g.row.REQS c.self.inside.slab _ c.self.view_is c.args.p c.requires) c.remove-entry.ensures.updates

pub remove-entry-requires : goal.remove-entry-requires
remove-entry-requires g c = key_there g.row.REQS c.self.inside.slab _ c.self.view_is c.args.p c.requires
