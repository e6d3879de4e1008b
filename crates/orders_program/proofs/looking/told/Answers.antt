use Rattle.std.proofs.Common.{subst, sym}
use Rattle.std.specs.List.{All}
use Rattle.job_orders.specs.Reports.{IsLooked}
use Rattle.orders_program.specs.Begun.{start_of}
use Rattle.orders_program.specs.Followed.{HasOrder}
use Rattle.orders_program.proofs.looking.told.Goals as goal

pub ends_of-requires : goal.ends_of-requires
ends_of-requires c =
    let v = start_of c.args.work.now in
    let turns = c.args.options.now.turns in
    let found = subst (IsLooked turns c.args.options.now.states v) c.in-All.is c.requires in
    subst (All (λ e. HasOrder turns v e.moves.items)) (sym c.as_slice.ensures.value)
    (λ i d low. ((found.0.each i d low).state, (found.0.each i d low).order))
