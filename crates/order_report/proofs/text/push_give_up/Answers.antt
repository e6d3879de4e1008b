use Rattle.std.proofs.Common.{◌++◌, ◌∙◌, ap, codes}
use Rattle.order_report.specs.Texts.{order_text, place_text, what_text}
use Rattle.order_report.proofs.Pieces.{added}
use Rattle.order_report.proofs.text.push_give_up.Goals as goal

pub returns : goal.returns
returns c =
    let out = c.args.out.now.items in
    let g = c.args.give_up.now in
    let head = codes "GAVE UP: job " in
    added out _ _ ((head ++ what_text g) ++ place_text g) (order_text g.order.items)
    (added out _ _ (head ++ what_text g) (place_text g)
    (added out _ _ head (what_text g) c.in_ok-extend_from_slice.ensures.items c.in_ok-push_what.ensures) c.in_ok-push_place.ensures)
    (c.in_ok-push_order.ensures ∙ ap (λ l. c.push_place.new.out.items ++ order_text l) c.as_slice.ensures.value)
