use Rattle.std.proofs.Common.{◌++◌, codes}
use Rattle.order_report.specs.Texts.{counted}
use Rattle.order_report.proofs.Pieces.{added}
use Rattle.order_report.proofs.text.push_too_many.Goals as goal

pub returns : goal.returns
returns c =
    let out = c.args.out.now.items in
    let head = codes "GAVE UP after " in
    let many = counted c.args.states (codes "state") in
    added out _ _ (head ++ many) (codes "\n") (added out _ _ head many c.in_ok-extend_from_slice.ensures.items c.in_ok-push_counted.ensures)
    c.in_ok-extend_from_slice-2.ensures.items
