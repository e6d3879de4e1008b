use Rattle.std.proofs.Common.{◌≡◌, ◌≤◌, ◌+◌, arith, length}
use Rattle.ddt_timeline.proofs.HistoryLemmas.{placed_end, settled_history}
use Rattle.ddt_timeline.proofs.RunLemmas.{settled}
use Rattle.ddt_timeline.proofs.timeline.Timeline.settle.Goals as goal

pub invariant_of-self-then-self-gt0 : goal.invariant_of-self-then-self-gt0
invariant_of-self-then-self-gt0 c =
    let all : c.args.self.now.whole ≡ length c.args.self.now.entries.items = omega arith in
    let end : length c.push.new.self.items ≤ c.args.self.now.whole + 1 = omega (arith, all, c.in_ok-push.ensures.len) in
    record {
      within = omega (arith, all, c.in_ok-push.ensures.len);
      placed = placed_end c.push.new.self.items (c.args.self.now.whole + 1) 0 end;
      reached =
          settled c.args.self.now.entries.items c.push.new.self.items c.args.self.now.whole c.args.self.now.part c.args.self.now.machine _
          all c.in_ok-push.ensures.items c.args.self.now.reached;
    }

pub returns-in_ok-push-clause-kept : goal.returns-in_ok-push-clause-kept
returns-in_ok-push-clause-kept c =
    let all : c.args.self.now.whole ≡ length c.args.self.now.entries.items = omega arith in
    settled_history c.args.self.now.entries.items c.push.new.self.items c.args.self.now.whole c.args.self.now.part _ all c.in_ok-push.ensures.items
