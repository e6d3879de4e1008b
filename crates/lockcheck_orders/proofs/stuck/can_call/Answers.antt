use Rattle.lockcheck_orders.specs.Packing.{unpacked}
use Rattle.lockcheck_orders.specs.Tables.{form_of}
use Rattle.lockcheck_orders.proofs.Learnt.{call-is, known-waits}
use Rattle.lockcheck_orders.proofs.stuck.can_call.Goals as goal

pub returns-in-Some-known_move : goal.returns-in-Some-known_move
returns-in-Some-known_move c =
    let lines = c.args.programs.now in
    let t = c.args.tables.now in
    let k = c.in-Some-known_move.known in
    call-is lines (unpacked lines (form_of t c.args.state)) c.args.by c.in-Some.line k.waits
    (known-waits lines t c.args.state c.args.by c.in-Some.line k c.in-Some-known_move.ensures.made c.in-Some-known_move.ensures.from
    c.in-Some-known_move.ensures.line c.in-Some.ensures.there c.in-Some.ensures.line)
    c.in-Some.ensures.there c.in-Some.ensures.line
