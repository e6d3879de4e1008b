use Rattle.std.proofs.Common.{◌<◌, ◌≤◌, ◌∙◌, sym, arith}
use Rattle.std.specs.List.{list_any}
use Rattle.lock_queue.specs.Waits.{jobs}
use Rattle.wait_graph.proofs.JobLemmas.{any-start, any-step, any-found, any-end}
use Rattle.wait_graph.specs.declared.pairs.TheConstants.{NUMBERS}
use Rattle.ddt_timeline.specs.Runs.{goes_on_in}
use Rattle.ddt_timeline.proofs.stops.some_go_on.Goals as goal

pub loop-number-init : goal.loop-number-init
loop-number-init c = any-start (goes_on_in c.args.machine.now)

pub returns-then-goes_on : goal.returns-then-goes_on
returns-then-goes_on c =
    let f = goes_on_in c.args.machine.now in
    let within : c.loop-number.number < NUMBERS = omega arith in
    any-found f c.loop-number.number (list_any f jobs) within (sym c.goes_on.ensures ∙ c.if-goes_on.true) c.loop-number.invariant

pub loop-number-preserved : goal.loop-number-preserved
loop-number-preserved c =
    let f = goes_on_in c.args.machine.now in
    let within : c.loop-number.number < NUMBERS = omega arith in
    any-step f c.loop-number.number (list_any f jobs) within (sym c.goes_on.ensures ∙ c.if-goes_on.false) c.loop-number.invariant

pub returns : goal.returns
returns c =
    let f = goes_on_in c.args.machine.now in
    let end : NUMBERS ≤ c.loop-number.number = omega arith in
    any-end f c.loop-number.number (list_any f jobs) end c.loop-number.invariant
