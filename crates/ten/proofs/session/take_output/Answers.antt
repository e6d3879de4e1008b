use Rattle.std.proofs.Common.{◌+◌, inl, inr, arith, rules}
use Rattle.ten.proofs.Taking.{last_empty, one_further, text_further, writes_as, writes_both}
use Rattle.ten.proofs.session.take_output.Goals as goal

pub loop-preserved : goal.loop-preserved
loop-preserved c =
    let line = c.args.terminal.now.line in
    let n = c.loop.counter in
    let s = c.args.machine.now in
    let own = c.loop.terminal.line in
    record {
      state = one_further line own n s c.loop.machine _ c.loop.invariant.writes.line c.loop.invariant.state c.take_some.ensures.state;
      writes = writes_as _ _ _ _ _ _ (text_further line own n s c.loop.machine c.loop.invariant.writes.line c.loop.invariant.state)
          (writes_both _ _ _ _ _ _ _ _ c.loop.invariant.writes c.take_some.ensures.writes);
    }

pub returns-after-loop : goal.returns-after-loop
returns-after-loop c = record {
  took = record {
    count = c.loop.counter;
    state = c.loop.invariant.state;
    some = omega arith;
    all = inl (omega arith);
  };
  writes = c.loop.invariant.writes;
}

pub returns-then-not-take_some : goal.returns-then-not-take_some
returns-then-not-take_some c =
    let line = c.args.terminal.now.line in
    let n = c.loop.counter in
    let s = c.args.machine.now in
    let own = c.loop.terminal.line in
    record {
      took = record {
        count = n + 1;
        state = one_further line own n s c.loop.machine _ c.loop.invariant.writes.line c.loop.invariant.state c.take_some.ensures.state;
        some = omega arith;
        all = inr (last_empty line own n s c.loop.machine c.loop.invariant.writes.line c.loop.invariant.state
            (c.take_some.ensures.none (search rules)));
      };
      writes = writes_as _ _ _ _ _ _ (text_further line own n s c.loop.machine c.loop.invariant.writes.line c.loop.invariant.state)
          (writes_both _ _ _ _ _ _ _ _ c.loop.invariant.writes c.take_some.ensures.writes);
    }
