use Rattle.std.proofs.Common.{◌∙◌, sym, arith}
use Rattle.job_turns.proofs.GoingOn.{all-made, no-more, one-more, quiet-runs}
use Rattle.job_turns.proofs.turns.Turns.settle_job.Goals as goal

pub returns-then-not-is_quiet-clause-alone : goal.returns-then-not-is_quiet-clause-alone
returns-then-not-is_quiet-clause-alone g c =
    no-more c.args.most c.loop.counter c.args.n c.loop.self c.args.self.now (sym c.is_quiet.ensures ∙ c.if-not-is_quiet.true) c.loop.invariant.rest

pub take_turn_at_once-requires-clause-ready : goal.take_turn_at_once-requires-clause-ready
take_turn_at_once-requires-clause-ready g c = quiet-runs c.loop.self c.args.n (sym c.is_quiet.ensures ∙ c.if-not-is_quiet.false)

pub loop-preserved : goal.loop-preserved
loop-preserved g c = record {
  rest =
      one-more c.args.most c.loop.counter c.args.n c.loop.self c.take_turn_at_once.new.self c.args.self.now (omega arith)
      (sym c.is_quiet.ensures ∙ c.if-not-is_quiet.false) c.in_ok-take_turn_at_once.ensures.turned c.loop.invariant.rest;
  awake = c.in_ok-take_turn_at_once.ensures.awake;
}

pub returns-clause-alone : goal.returns-clause-alone
returns-clause-alone g c = all-made c.args.most c.loop.counter c.args.n c.loop.self c.args.self.now (omega arith) c.loop.invariant.rest
