use Rattle.std.proofs.Common.{◌<◌, ◌≤◌, List, sym, subst, ap, map, arith}
use Rattle.std.specs.List.{All}
use Rattle.std.proofs.lemmas.List.Elements.{All-nil}
use Rattle.lock_queue.specs.declared.request.Request.{Request}
use Rattle.lock_bars.specs.Arrows.{HasLock, wait_of, waits_in, waits_of}
use Rattle.lock_bars.specs.declared.arrows.Arrow.{Arrow}
use Rattle.lock_bars.proofs.EachJob.{each_start, each_step, each_end}
use Rattle.wait_graph.specs.declared.pairs.TheConstants.{NUMBERS}
use Rattle.lock_bars.proofs.arrows.arrows_in.Goals as goal

pub loop-job-init : goal.loop-job-init
loop-job-init g c = record {
  waits = each_start (waits_of c.args.graph.now) (map wait_of c.new-arrows.result.items) (ap (map wait_of) c.new-arrows.ensures.items);
  locks =
      let requests = c.in_ok-requests.requests.items in
      subst (λ (arrows : List Arrow). All (HasLock requests) arrows) (sym c.new-arrows.ensures.items) (All-nil (HasLock requests));
}

pub loop-job-preserved : goal.loop-job-preserved
loop-job-preserved g c =
    let within : c.loop-job.job < NUMBERS = omega arith in
    record {
      waits =
          each_step (waits_of c.args.graph.now) c.loop-job.job (map wait_of c.loop-job.arrows.items)
          (map wait_of c.push_arrows_of.new.arrows.items) (waits_in c.args.graph.now) within c.in_ok-push_arrows_of.ensures.waits
          c.loop-job.invariant.waits;
      locks =
          subst (λ (requests : List Request). All (HasLock requests) c.push_arrows_of.new.arrows.items) c.as_slice.ensures.value
          c.in_ok-push_arrows_of.ensures.locks;
    }

pub returns-clause-waits : goal.returns-clause-waits
returns-clause-waits g c =
    let end : NUMBERS ≤ c.loop-job.job = omega arith in
    each_end (waits_of c.args.graph.now) c.loop-job.job (map wait_of c.loop-job.arrows.items) (waits_in c.args.graph.now) end
    c.loop-job.invariant.waits
