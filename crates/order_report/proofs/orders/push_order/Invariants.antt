use Rattle.std.proofs.Common.{◌≡◌, ◌++◌, take}
use Rattle.order_report.specs.Texts.{order_text}
use Rattle.order_report.proofs.orders.push_order.Given as goal

abbrev pub invariant-loop-part : goal.invariant-loop-part
invariant-loop-part l = l.out.items ≡ l.initial.out.items ++ order_text (take l.part-index l.order)
