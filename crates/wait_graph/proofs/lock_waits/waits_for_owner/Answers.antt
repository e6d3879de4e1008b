use Rattle.std.proofs.Common.{◌<◌, ◌≤◌, ◌∙◌, sym, arith}
use Rattle.std.specs.List.{list_any}
use Rattle.lock_queue.specs.Waits.{jobs, waits_hard_for}
use Rattle.wait_graph.proofs.JobLemmas.{any-start, any-step, any-found, any-end}
use Rattle.wait_graph.specs.declared.pairs.TheConstants.{NUMBERS}
use Rattle.wait_graph.proofs.lock_waits.waits_for_owner.Goals as goal

pub loop-other-init : goal.loop-other-init
loop-other-init c = any-start (waits_hard_for c.args.requests.now c.args.job)

pub returns-then-waits_by : goal.returns-then-waits_by
returns-then-waits_by c =
    let f = waits_hard_for c.args.requests.now c.args.job in
    let within : c.loop-other.other < NUMBERS = omega arith in
    any-found f c.loop-other.other (list_any f jobs) within (sym c.waits_by.ensures ∙ c.if-waits_by.true) c.loop-other.invariant

pub loop-other-preserved : goal.loop-other-preserved
loop-other-preserved c =
    let f = waits_hard_for c.args.requests.now c.args.job in
    let within : c.loop-other.other < NUMBERS = omega arith in
    any-step f c.loop-other.other (list_any f jobs) within (sym c.waits_by.ensures ∙ c.if-waits_by.false) c.loop-other.invariant

pub returns : goal.returns
returns c =
    let f = waits_hard_for c.args.requests.now c.args.job in
    let end : NUMBERS ≤ c.loop-other.other = omega arith in
    any-end f c.loop-other.other (list_any f jobs) end c.loop-other.invariant
