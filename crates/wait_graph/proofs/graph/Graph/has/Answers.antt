use Rattle.std.proofs.Common.{◌<◌, ◌≤◌, ◌∙◌, sym, arith}
use Rattle.std.specs.List.{list_any}
use Rattle.lock_queue.specs.Waits.{jobs}
use Rattle.wait_graph.proofs.JobLemmas.{any-start, any-step, any-found, any-end}
use Rattle.wait_graph.specs.declared.pairs.TheConstants.{NUMBERS}
use Rattle.wait_graph.specs.Graphs.{is_between}
use Rattle.wait_graph.proofs.graph.Graph.has.Goals as goal

pub loop-other-init : goal.loop-other-init
loop-other-init c = any-start (is_between c.args.self.now c.args.job)

pub returns-then-is_between : goal.returns-then-is_between
returns-then-is_between c =
    let f = is_between c.args.self.now c.args.job in
    let within : c.loop-other.other < NUMBERS = omega arith in
    any-found f c.loop-other.other (list_any f jobs) within (sym c.is_between.ensures ∙ c.if-is_between.true) c.loop-other.invariant

pub loop-other-preserved : goal.loop-other-preserved
loop-other-preserved c =
    let f = is_between c.args.self.now c.args.job in
    let within : c.loop-other.other < NUMBERS = omega arith in
    any-step f c.loop-other.other (list_any f jobs) within (sym c.is_between.ensures ∙ c.if-is_between.false) c.loop-other.invariant

pub returns : goal.returns
returns c =
    let f = is_between c.args.self.now c.args.job in
    let end : NUMBERS ≤ c.loop-other.other = omega arith in
    any-end f c.loop-other.other (list_any f jobs) end c.loop-other.invariant
