use Rattle.std.proofs.Common.{refl}
use Rattle.lockcheck_orders.specs.declared.tables.Tables.{Tables}
use Rattle.lockcheck_orders.specs.Learning.{learns_on, made_stays}
use Rattle.lockcheck_orders.proofs.Learnt.{keeps, same-grown}
use Rattle.lockcheck_orders.proofs.orders.move_of.Goals as goal

pub returns-clause-learns : goal.returns-clause-learns
returns-clause-learns c =
    let lines = c.args.programs.now in
    let t = c.find_move.new.tables in
    let u : Tables = record { requests = c.find_move.new.tables.requests; vectors = c.find_move.new.tables.vectors; known = c.keep_move.new.known } in
    let kept = c.in_ok-keep_move.ensures in
    learns_on lines lines lines c.args.tables.now t u c.in_ok-found.ensures.learns
    (keeps lines t u kept.0 kept.1 c.place_of.result c.in_ok-found.found refl refl kept.2
    (made_stays t u (same-grown t.requests u.requests refl) (same-grown t.vectors u.vectors refl) lines c.in_ok-found.found c.in_ok-found.ensures.made))
