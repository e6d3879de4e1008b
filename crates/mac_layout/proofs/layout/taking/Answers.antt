use Rattle.std.proofs.Common.{◌∙◌, ap, sym, not, true, false}
use Rattle.mac_layout.proofs.LayoutLemmas.{taking_twice, taking_once}
use Rattle.mac_layout.proofs.layout.taking.Goals as goal

pub returns-then-any_marked : goal.returns-then-any_marked
returns-then-any_marked c = λ past m.
    taking_twice c.args.taken.now past c.args.address.now c.args.size.now c.part-first.result.0 c.part-first.result.1
    c.any_marked.result m c.part-first.ensures.within c.part-first.ensures.addresses c.any_marked.ensures c.if-any_marked.true

pub returns-then-is_room : goal.returns-then-is_room
returns-then-is_room c = λ past m.
    taking_once c.args.taken.now past c.args.address.now c.args.size.now c.part-first.result.0 c.part-first.result.1
    c.any_marked.result false m c.part-first.ensures.within c.part-first.ensures.addresses c.any_marked.ensures
    c.if-any_marked.false
    (λ all. ap not (sym c.if-is_room.true) ∙ c.is_room.ensures all)

pub returns-else-is_room : goal.returns-else-is_room
returns-else-is_room c = λ past m.
    taking_once c.args.taken.now past c.args.address.now c.args.size.now c.part-first.result.0 c.part-first.result.1
    c.any_marked.result true m c.part-first.ensures.within c.part-first.ensures.addresses c.any_marked.ensures
    c.if-any_marked.false
    (λ all. ap not (sym c.if-is_room.false) ∙ c.is_room.ensures all)
