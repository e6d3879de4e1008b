use Rattle.std.proofs.Common.{◌∙◌}
use Rattle.std.proofs.lemmas.List.{get_or_default}
use Rattle.key_queues.proofs.Keeps.{numbered, seen_blocked}
use Rattle.key_queues.proofs.store.Store.blocked.Goals as goal

pub returns : goal.returns
returns g c =
    let e = c.index.ensures in
    let h = seen_blocked _ _ _ _ _ _ c.self.invariant c.args.self.now c.args.job c.self.view_is c.requires in
    e ∙ get_or_default c.self.inside.blocked.items c.args.job c.index.result.now 0 (numbered _ _ _ _ _ _ c.self.invariant 0 c.args.job c.requires) ∙ h
