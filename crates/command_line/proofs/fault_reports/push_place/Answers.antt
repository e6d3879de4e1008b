use Rattle.std.proofs.Common.{◌++◌, ◌∙◌, ap, append_assoc, codes, decimal}
use Rattle.command_line.proofs.fault_reports.push_place.Goals as goal

pub returns : goal.returns
returns c =
    c.in_ok-push_decimal.ensures ∙ ap (λ l. l ++ decimal c.args.number) c.in_ok-extend_from_slice.ensures.items
    ∙ append_assoc c.args.out.now.items (codes "lockmon: line ") (decimal c.args.number)
