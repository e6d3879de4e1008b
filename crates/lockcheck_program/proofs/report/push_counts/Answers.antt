use Rattle.std.proofs.Common.{◌++◌, ◌∙◌, codes, length, ap}
use Rattle.lockcheck_orders.specs.Programs.{jobs_of}
use Rattle.lockcheck_program.specs.Reports.{counted}
use Rattle.lockcheck_program.proofs.TextLemmas.{six_pieces}
use Rattle.lockcheck_program.proofs.report.push_counts.Goals as goal

pub returns : goal.returns
returns c =
    let out = c.args.out.now.items in
    let named = c.extend_from_slice.new.self.items in
    six_pieces out _ _ _ _ _ _ (counted (length (jobs_of c.args.programs.now)) (codes "job")) (codes ", ")
    (counted (length c.args.programs.now) (codes "call")) (codes ", ") (counted c.args.states (codes "state")) (codes ", all looked at\n")
    (c.in_ok-push_counted.ensures ∙ ap (λ js. out ++ counted (length js) (codes "job")) c.jobs.ensures.value)
    c.in_ok-extend_from_slice.ensures.items
    (c.in_ok-push_counted-2.ensures ∙ ap (λ ls. named ++ counted (length ls) (codes "call")) c.lines.ensures.value)
    c.in_ok-extend_from_slice-2.ensures.items c.in_ok-push_counted-3.ensures c.in_ok-extend_from_slice-3.ensures.items
