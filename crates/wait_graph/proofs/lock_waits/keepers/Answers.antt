use Rattle.std.proofs.Common.{◌<◌, ◌≤◌, ◌++◌, ◌∙◌, [], ap, arith}
use Rattle.std.specs.List.{flat_map}
use Rattle.lock_queue.specs.Waits.{jobs, numbers_from}
use Rattle.wait_graph.proofs.JobLemmas.{lists-start, lists-step, lists-end}
use Rattle.wait_graph.specs.declared.pairs.TheConstants.{NUMBERS}
use Rattle.word36.specs.declared.sizes.TheConstants.{JOBS}
use Rattle.wait_graph.specs.LockWaits.{keeper}
use Rattle.wait_graph.proofs.lock_waits.keepers.Goals as goal

pub loop-other-init : goal.loop-other-init
loop-other-init c =
    let f = keeper c.args.is_held c.args.requests.now c.args.job c.args.earlier.now c.args.w.now in
    ap (λ l. l ++ flat_map f (numbers_from 1 JOBS)) c.new-found.ensures.items ∙ lists-start f []

pub loop-other-preserved : goal.loop-other-preserved
loop-other-preserved c =
    let f = keeper c.args.is_held c.args.requests.now c.args.job c.args.earlier.now c.args.w.now in
    let within : c.loop-other.other < NUMBERS = omega arith in
    lists-step f c.loop-other.other c.loop-other.found.items c.push_keeper.new.found.items (flat_map f jobs) within
    c.in_ok-push_keeper.ensures c.loop-other.invariant

pub returns : goal.returns
returns c =
    let f = keeper c.args.is_held c.args.requests.now c.args.job c.args.earlier.now c.args.w.now in
    let end : NUMBERS ≤ c.loop-other.other = omega arith in
    lists-end f c.loop-other.other c.loop-other.found.items (flat_map f jobs) end c.loop-other.invariant
