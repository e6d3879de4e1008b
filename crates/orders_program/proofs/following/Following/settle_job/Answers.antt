use Rattle.std.proofs.Common.{◌∙◌, sym, ap, ◌+◌, ◌-◌, arith}
use Rattle.job_moves.specs.Moves.{alone}
use Rattle.job_turns.proofs.GoingOn.{all-made, no-more, one-more}
use Rattle.orders_program.proofs.Going.{goes-as, goes-on}
use Rattle.orders_program.proofs.following.Following.settle_job.Goals as goal

pub returns-then-not-is_quiet : goal.returns-then-not-is_quiet
returns-then-not-is_quiet c =
    goes-as c.args.self.now c.loop.self _ _ c.loop.invariant.goes
    (no-more c.args.self.now.most c.loop.counter c.args.n c.loop.self.machine c.args.self.now.machine
    (sym c.is_quiet.ensures ∙ c.if-not-is_quiet.true) c.loop.invariant.rest)

pub loop-preserved : goal.loop-preserved
loop-preserved c =
    let put = c.in_ok-put_off.ensures in
    let turn = c.in_ok-turn.ensures in
    record {
      rest =
          ap (alone (c.args.self.now.most - (c.loop.counter + 1)) c.args.n) put.machine
          ∙ one-more c.args.self.now.most c.loop.counter c.args.n c.loop.self.machine c.take_turn.new.self.machine c.args.self.now.machine
          (omega arith) (sym c.is_quiet.ensures ∙ c.if-not-is_quiet.false) turn.turned c.loop.invariant.rest;
      goes =
          goes-as c.args.self.now c.put_off.new.self _ _
          (goes-on c.args.self.now c.take_turn.new.self c.put_off.new.self _ _
          (goes-on c.args.self.now c.loop.self c.take_turn.new.self _ _ c.loop.invariant.goes turn.goes) put) (sym put.machine);
    }

pub returns : goal.returns
returns c =
    goes-as c.args.self.now c.loop.self _ _ c.loop.invariant.goes
    (all-made c.args.self.now.most c.loop.counter c.args.n c.loop.self.machine c.args.self.now.machine (omega arith) c.loop.invariant.rest)
