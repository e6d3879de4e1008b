use Rattle.std.proofs.Common.{◌≤◌, length, sym, arith}
use Rattle.std.proofs.lemmas.List.{length-take-le}
use Rattle.ddt_timeline.proofs.timeline.Timeline.happened.Goals as goal

pub returns : goal.returns
returns c =
    let timeline = c.args.self.now in
    let within : timeline.whole ≤ length timeline.entries.items = omega arith in
    sym (length-take-le timeline.whole timeline.entries.items within)
