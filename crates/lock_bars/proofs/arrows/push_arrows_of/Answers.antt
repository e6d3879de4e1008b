use Rattle.std.proofs.Common.{◌<◌, ◌≤◌, ◌++◌, ap, map, arith}
use Rattle.std.specs.List.{flat_map}
use Rattle.wait_graph.proofs.JobLemmas.{jobs-start}
use Rattle.wait_graph.specs.Graphs.{wait_in}
use Rattle.wait_graph.specs.declared.pairs.TheConstants.{NUMBERS}
use Rattle.lock_bars.specs.Arrows.{listed, wait_of, waits_of}
use Rattle.lock_bars.proofs.EachJob.{each_step, each_end}
use Rattle.lock_bars.proofs.arrows.push_arrows_of.Goals as goal

pub loop-other-init : goal.loop-other-init
loop-other-init c = record {
  waits = ap (λ l. map wait_of c.args.arrows.now.items ++ flat_map (λ other. listed (wait_in c.args.graph.now c.args.job other)) l) jobs-start;
  locks = c.requires.locks;
}

pub loop-other-preserved : goal.loop-other-preserved
loop-other-preserved c =
    let within : c.loop-other.other < NUMBERS = omega arith in
    record {
      waits =
          each_step (λ other. listed (wait_in c.args.graph.now c.args.job other)) c.loop-other.other
          (map wait_of c.loop-other.arrows.items) (map wait_of c.push_arrow.new.arrows.items)
          (map wait_of c.args.arrows.now.items ++ waits_of c.args.graph.now c.args.job) within c.in_ok-push_arrow.ensures.waits
          c.loop-other.invariant.waits;
      locks = c.in_ok-push_arrow.ensures.locks;
    }

pub returns-clause-waits : goal.returns-clause-waits
returns-clause-waits c =
    let end : NUMBERS ≤ c.loop-other.other = omega arith in
    each_end (λ other. listed (wait_in c.args.graph.now c.args.job other)) c.loop-other.other (map wait_of c.loop-other.arrows.items)
    (map wait_of c.args.arrows.now.items ++ waits_of c.args.graph.now c.args.job) end c.loop-other.invariant.waits
