use Rattle.std.proofs.Common.{◌∙◌, sym, ap, [], arith}
use Rattle.lock_queue.specs.Dequeues.{dequeue_fault}
use Rattle.lock_queue.specs.Outcomes.{first_refusal}
use Rattle.lock_table.specs.Whole.{requests_in}
use Rattle.lock_table.proofs.Named.{sole_left, sole_passes}
use Rattle.lock_table.proofs.Wholes.{named_gone}
use Rattle.lock_table.proofs.table.Table.dequeue_named.Goals as goal

pub returns-in-Some : goal.returns-in-Some
returns-in-Some g c =
    let s = c.args.self.now.store in
    let named = c.args.named.now.items in
    let sole = rw c.as_slice.ensures.value at c.in-Some.ensures in
    let left =
    sole_left s c.args.job named c.in-Some.p sole c.leave.new.self.store c.requires.whole.right c.requires.whole.table.kept.once
    c.leave.ensures.order c.leave.ensures.others in
    let all =
    named_gone g.row.REQS s c.leave.new.self.store c.args.self.now.keys c.leave.new.self.keys c.args.job c.args.named.now
    c.requires.whole c.leave.ensures.table left (sole_passes s c.args.job named c.in-Some.p sole) in
    record { whole = all.0; requests = all.1; reply = all.2; left = λ done. all.3; flips = λ done. c.leave.ensures.flips }

pub returns : goal.returns
returns g c =
    let s = c.args.self.now.store in
    let left = rw c.as_slice-3.ensures.value at c.give_up_named.ensures.left in
    let none = ap (first_refusal (dequeue_fault (requests_in s) c.args.job) []) (sym c.as_slice-2.ensures.value) ∙ sym c.refusal_of_dequeue.ensures.refusal ∙ c.in_default-refusal_of_dequeue.is in
    let all =
    named_gone g.row.REQS s c.give_up_named.new.self.store c.args.self.now.keys c.give_up_named.new.self.keys c.args.job
    c.args.named.now c.requires.whole c.give_up_named.ensures.table left none in
    record { whole = all.0; requests = all.1; reply = all.2; left = λ done. all.3; flips = λ done. c.give_up_named.ensures.flips }

pub give_up_named-requires : goal.give_up_named-requires
give_up_named-requires g c = grind arith
