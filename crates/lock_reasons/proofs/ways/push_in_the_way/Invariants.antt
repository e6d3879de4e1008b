use Rattle.std.proofs.Common.{◌≡◌, ◌++◌, drop, filter, map}
use Rattle.lock_reasons.specs.Meetings.{present_of}
use Rattle.lock_reasons.specs.Ways.{in_the_way, is_met}
use Rattle.lock_reasons.proofs.ways.push_in_the_way.Given as goal

abbrev pub invariant-loop-v : goal.invariant-loop-v
invariant-loop-v l =
    l.way.items ++ map (present_of l.r) (filter (is_met l.w) (drop l.v-index l.r.wants.items))
    ≡ l.initial.way.items ++ in_the_way l.w l.r
