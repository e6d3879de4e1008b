use Rattle.std.proofs.Common.{rules, ◌≡◌, ◌∙◌, ◌++◌, ap, ℕ}
use Rattle.std.specs.Prelude.{codes}
use Rattle.run_record.specs.Scripts.{counted}
use Rattle.run_record.proofs.Parts.{three}
use Rattle.run_record.proofs.scripts.push_head.Goals as goal

pub returns : goal.returns
returns c =
    let same : c.from.result ≡ c.args.quantum = search rules in
    three _ _ _ _ _ _ _ c.in_ok-push_number.ensures
    (c.in_ok-push_number-2.ensures ∙ ap (λ (n : ℕ). c.push_number.new.out.items ++ counted (codes " --quantum ") n) same)
    c.in_ok-push.ensures.items
