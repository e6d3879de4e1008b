use Rattle.std.proofs.Common.{◌<◌, ◌∙◌, ap, Some, arith}
use Rattle.key_queues.specs.declared.entry.Entry.{Entry}
use Rattle.key_queues.specs.EntrySlabs.{with_content}
use Rattle.key_queues.proofs.Contents.{seen_at, updates_seen}
use Rattle.key_queues.proofs.entry_slab.EntrySlab.insert.Goals as goal

pub returns-clause-free : goal.returns-clause-free
returns-clause-free g c = grind (arith, seen_at g.row.REQS c.self.inside.slab _ c.self.view_is c.insert_reserved.result)

pub returns-clause-contents : goal.returns-clause-contents
returns-clause-contents g c =
    let below : c.insert_reserved.result < g.row.REQS =
    omega (arith, c.insert_reserved.ensures.key_in_range, c.insert_reserved.ensures.capacity, c.self.invariant.capacity) in
    updates_seen g.row.REQS c.self.inside.slab _ c.self.view_is c.insert_reserved.result c.insert_reserved.new.self _ below c.insert_reserved.ensures.updates
    ∙ ap (λ (f : Entry). with_content c.args.self.now.contents c.insert_reserved.result (Some f)) c.begin.ensures
