use Rattle.std.proofs.Common.{◌≡◌, ◌+◌, ◌++◌, drop}
use Rattle.order_report.specs.Texts.{ends_text}
use Rattle.order_report.proofs.text.push_ends.Given as goal

abbrev pub invariant-loop-position : goal.invariant-loop-position
invariant-loop-position l =
    l.out.items ++ ends_text (l.position + 1) l.with_order (drop l.position l.ends)
    ≡ l.initial.out.items ++ ends_text 1 l.with_order l.ends
