use Rattle.op_script.proofs.EventLemmas.{repeat-start, repeat-step, repeat-end}
use Rattle.op_script.proofs.events.repeat.Goals as goal

pub times-init : goal.times-init
times-init g c = repeat-start c.args.times c.args.event.now c.args.machine.now

pub times-preserved : goal.times-preserved
times-preserved g c =
    repeat-step c.times.counter c.args.times c.args.event.now c.times.machine _ _ c.times-test.true c.event.ensures.state c.times.invariant

pub returns : goal.returns
returns g c = repeat-end c.times.counter c.args.times c.args.event.now c.times.machine _ c.times-test.false c.times.invariant
