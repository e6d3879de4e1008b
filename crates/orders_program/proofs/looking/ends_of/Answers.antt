use Rattle.std.proofs.Common.{◌∙◌, ap, sym, subst}
use Rattle.orders_program.specs.Begun.{start_of}
use Rattle.orders_program.specs.Followed.{HasOrder}
use Rattle.orders_program.proofs.looking.ends_of.Goals as goal

pub follow-requires : goal.follow-requires
follow-requires c =
    subst (HasOrder c.args.turns (start_of c.args.work.now)) (sym (ap (λ e. e.moves.items) c.end-item.is) ∙ sym c.as_slice.ensures.value)
    (c.requires c.loop-end.end-index c.end-item.result c.loop-end-test.true)
