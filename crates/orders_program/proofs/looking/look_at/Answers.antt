use Rattle.std.proofs.Common.{◌∙◌, ap, sym, subst}
use Rattle.job_orders.specs.Reports.{IsLooked, started}
use Rattle.orders_program.proofs.Begun.{begun-blocks}
use Rattle.orders_program.proofs.looking.look_at.Goals as goal

pub look-requires-clause-blocks : goal.look-requires-clause-blocks
look-requires-clause-blocks g c =
    c.blocks-blocks.ensures.value ∙ sym (ap (λ s. s.blocks) c.in_ok-system.ensures ∙ begun-blocks c.args.work.now.config.blocks c.args.work.now.config.quantum c.args.work.now.programs.now)

pub returns : goal.returns
returns g c =
    subst (λ v. IsLooked c.args.options.now.turns c.args.options.now.states v c.in_ok-looked.looked)
    (ap (λ b. started b c.in_ok-system.system.world) c.blocks-blocks.ensures.value
    ∙ ap (λ s. started c.args.work.now.config.blocks s.world) c.in_ok-system.ensures) c.in_ok-looked.ensures
