use Rattle.std.proofs.Common.{◌≡◌, ap, arith, take, drop, List}
use Rattle.ddt_timeline.specs.Timelines.{ticks_in}
use Rattle.ddt_timeline.specs.declared.entries.Entry.{Entry}
use Rattle.ddt_timeline.proofs.HistoryLemmas.{drop-all, ticks_past}
use Rattle.ddt_timeline.proofs.timeline.Timeline.ticks.Goals as goal

pub returns : goal.returns
returns c =
    let all = ticks_past c.args.self.now.entries.items c.args.self.now.whole c.args.self.now.part in
    let same : ticks_in c.entries-entry-items.result.now ≡ ticks_in (take c.args.self.now.whole c.args.self.now.entries.items) =
    ap (λ (l : List Entry). ticks_in l) c.entries-entry-items.ensures in
    let end : ticks_in (drop c.loop-entry.entry-index c.entries-entry-items.result.now) ≡ 0 =
    ap (λ (l : List Entry). ticks_in l) (drop-all c.entries-entry-items.result.now c.loop-entry.entry-index c.loop-entry-test.false) in
    omega (arith, all, same, end, c.loop-entry.invariant.count, c.loop-entry.invariant.fits)
