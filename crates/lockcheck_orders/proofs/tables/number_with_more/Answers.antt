use Rattle.std.proofs.Common.{◌≡◌, ◌<◌, ◌+◌, ℕ, List, length, get_or, set, sym, ap, subst, ◌∙◌}
use Rattle.lockcheck_orders.proofs.Numbers.{vector-is, vector-stored}
use Rattle.lockcheck_orders.proofs.tables.number_with_more.Goals as goal

pub with_more-requires : goal.with_more-requires
with_more-requires c =
    let P : List ℕ → Type 0 = λ xs. c.args.at < length xs in
    subst P (vector-is c.args.vectors.now c.args.number c.part.result.now c.part.ensures) c.requires.within

pub returns-clause-more : goal.returns-clause-more
returns-clause-more c =
    let k = c.in_ok-number.ensures.stored in
    vector-stored c.number_of.new.self c.in_ok-number.number c.in_ok-more.more k.0 k.1 k.2 ∙ c.in_ok-more.ensures
    ∙ ap (λ xs. set xs c.args.at (get_or xs c.args.at 0 + 1))
    (sym (vector-is c.args.vectors.now c.args.number c.part.result.now c.part.ensures))
