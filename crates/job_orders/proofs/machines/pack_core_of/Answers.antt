use Rattle.std.proofs.Common.{ℕ, Vec, Global, map, ap, ◌∙◌}
use Rattle.job_order_laws.specs.Turned.{V}
use Rattle.job_orders.proofs.Setting.{machine_of, same-cores}
use Rattle.job_orders.proofs.machines.pack_core_of.Goals as goal

pub returns-clause-same : goal.returns-clause-same
returns-clause-same c =
    same-cores _ c.args.machine.now _
    (ap (λ x. machine_of x.world x.quantum x.blocks (map (λ (t : Vec ℕ Global). t.items) x.texts.items) x.last) c.machine-inside.view_is
    ∙ ap (λ (v : V). v) c.machine.view_is)
    c.pack_core.ensures.same
