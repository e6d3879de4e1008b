use Rattle.lockcheck_orders.proofs.NormalFound.{given-by, given-there}
use Rattle.lockcheck_orders.proofs.verdicts.all_answers.Goals as goal

pub returns : goal.returns
returns c =
    let lines = c.args.orders.now.programs.now in
    λ a. (λ t. given-by lines a ((c.in_ok-all.ensures a).0 t), λ g. (c.in_ok-all.ensures a).1 (given-there lines a g))
