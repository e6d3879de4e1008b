use Rattle.std.proofs.Common.{◌≡◌, ◌+◌, ◌*◌, filter, take}
use Rattle.std.specs.BTreeSet as bag
use Rattle.std.specs.Ordering.{nat_cmp}
use Rattle.lockcheck_orders.specs.declared.answers.TheConstants.{ANSWERS}
use Rattle.lockcheck_program.proofs.report.answers_to.Given as goal

abbrev pub invariant-loop-answer : goal.invariant-loop-answer
invariant-loop-answer l = l.answers.items ≡ filter (λ a. bag.contains nat_cmp l.all (l.number * ANSWERS + a)) (take l.answer-index l.answer-items)
