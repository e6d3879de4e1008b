use Rattle.orders_program.specs.Begun.{start_of}
use Rattle.orders_program.specs.Scripts.{moves_recorded}
use Rattle.orders_program.proofs.Recorded.{recorded-order, script-for}
use Rattle.orders_program.proofs.program.script_for.Goals as goal

pub follow-requires : goal.follow-requires
follow-requires c =
    recorded-order c.args.options.now.turns c.args.options.now.states (start_of c.args.work.now) c.args.looked.now c.args.options.now.end _
    c.requires c.in-Some.ensures

pub returns : goal.returns
returns c =
    script-for c.args.options.now.turns c.args.work.now c.args.files.now c.in-Some.moves.now
    (moves_recorded c.args.looked.now c.args.options.now.end) c.in_ok-followed.followed c.in_ok-script.script c.in-Some.ensures
    c.in_ok-followed.ensures c.in_ok-script.ensures
