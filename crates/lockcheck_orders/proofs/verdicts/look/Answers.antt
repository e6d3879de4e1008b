use Rattle.std.proofs.Common.{◌≡◌, List, length, subst, ◌∙◌}
use Rattle.state_search.specs.declared.breadth_first.Outcome.{Outcome}
use Rattle.state_search.specs.Found.{HasMore, IsAnswer}
use Rattle.lockcheck_orders.specs.declared.kept.KeptState.{KeptState}
use Rattle.lockcheck_orders.specs.declared.lines.Line.{Line}
use Rattle.lockcheck_orders.specs.NormalOrders.{next_normal}
use Rattle.lockcheck_orders.specs.Orders.{first_state}
use Rattle.lockcheck_orders.specs.Packing.{unpacked}
use Rattle.lockcheck_orders.specs.Programs.{jobs_of}
use Rattle.lockcheck_orders.specs.Tables.{IsSoundState, form_of}
use Rattle.lockcheck_orders.proofs.NormalFound.{more}
use Rattle.lockcheck_orders.proofs.verdicts.look.Goals as goal

pub returns-in-GaveUp-clause-looked : goal.returns-in-GaveUp-clause-looked
returns-in-GaveUp-clause-looked g c =
    let same : c.search.new.system.programs.now ≡ c.args.programs.now = c.in_ok-outcome.ensures.extends.same_lines ∙ c.new-orders.ensures in
    let P : Outcome KeptState → Type 0 =
    λ o. IsAnswer (length (jobs_of c.search.new.system.programs.now)) (next_normal c.search.new.system.programs.now)
    (λ x. unpacked c.search.new.system.programs.now (form_of c.search.new.system.tables x)) (first_state c.search.new.system.programs.now)
    (IsSoundState c.search.new.system.programs.now c.search.new.system.tables) c.args.most o in
    let answer = subst P c.in-GaveUp.is c.in_ok-outcome.ensures.answer in
    let Q : List Line → Type 0 = λ v. HasMore (length (jobs_of v)) (next_normal v) (first_state v) c.args.most in
    (answer.0, more c.args.programs.now c.args.most (subst Q same answer.1))
