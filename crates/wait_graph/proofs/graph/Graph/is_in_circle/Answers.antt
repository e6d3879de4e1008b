use Rattle.std.proofs.Common.{◌<◌, ◌≤◌, ◌∙◌, sym, arith, ◌&&◌, ℕ}
use Rattle.std.specs.List.{list_any}
use Rattle.lock_queue.specs.Waits.{jobs}
use Rattle.wait_graph.specs.Pairs.{pair_in}
use Rattle.wait_graph.proofs.JobLemmas.{any-start, any-step, any-found, any-end}
use Rattle.wait_graph.specs.declared.pairs.TheConstants.{NUMBERS}
use Rattle.wait_graph.proofs.graph.Graph.is_in_circle.Goals as goal

pub loop-other-init : goal.loop-other-init
loop-other-init c = any-start (λ k. pair_in c.args.self.now.waits c.args.job k && pair_in c.args.self.now.circles c.args.job k)

pub returns-then-is_circle_wait : goal.returns-then-is_circle_wait
returns-then-is_circle_wait c =
    let f = λ (k : ℕ). pair_in c.args.self.now.waits c.args.job k && pair_in c.args.self.now.circles c.args.job k in
    let within : c.loop-other.other < NUMBERS = omega arith in
    any-found f c.loop-other.other (list_any f jobs) within (sym c.is_circle_wait.ensures ∙ c.if-is_circle_wait.true) c.loop-other.invariant

pub loop-other-preserved : goal.loop-other-preserved
loop-other-preserved c =
    let f = λ (k : ℕ). pair_in c.args.self.now.waits c.args.job k && pair_in c.args.self.now.circles c.args.job k in
    let within : c.loop-other.other < NUMBERS = omega arith in
    any-step f c.loop-other.other (list_any f jobs) within (sym c.is_circle_wait.ensures ∙ c.if-is_circle_wait.false) c.loop-other.invariant

pub returns : goal.returns
returns c =
    let f = λ (k : ℕ). pair_in c.args.self.now.waits c.args.job k && pair_in c.args.self.now.circles c.args.job k in
    let end : NUMBERS ≤ c.loop-other.other = omega arith in
    any-end f c.loop-other.other (list_any f jobs) end c.loop-other.invariant
