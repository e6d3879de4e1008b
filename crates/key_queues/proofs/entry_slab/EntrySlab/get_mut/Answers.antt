use Rattle.std.proofs.Common.{◌∙◌, refl}
use Rattle.std.specs.Box.{with_value}
use Rattle.key_queues.proofs.Contents.{key_there, was, written}
use Rattle.key_queues.proofs.entry_slab.EntrySlab.get_mut.Goals as goal

pub returns : goal.returns
returns g c =
    let view = c.self.view_is in
    let box = c.index_mut.result.now in (
      (refl, λ w. written g.row.REQS c.self.inside.slab _ view c.args.p c.requires (with_value box w)),
      record { writes_back = tt; value = c.deref_mut.ensures.value ∙ was g.row.REQS c.self.inside.slab _ view c.args.p c.requires box c.index_mut.ensures.value },
    )

pub index_mut-requires : goal.index_mut-requires
index_mut-requires g c = key_there g.row.REQS c.self.inside.slab _ c.self.view_is c.args.p c.requires
