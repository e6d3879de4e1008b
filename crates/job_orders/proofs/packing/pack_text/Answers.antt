use Rattle.std.proofs.Common.{ℕ, List, [], ◌∙◌}
use Rattle.job_orders.specs.Pages.{numbers-Decides, same_numbers}
use Rattle.job_orders.proofs.Numbers.{stored}
use Rattle.job_orders.proofs.packing.pack_text.Goals as goal

pub returns-clause-text : goal.returns-clause-text
returns-clause-text c =
    let s = c.in_ok-number.ensures.stored in
    stored (λ (p : List ℕ). p) [] same_numbers numbers-Decides c.number_of.new.self c.in_ok-number.number c.in_ok-characters.characters.items s.0
    c.in_ok-number.ensures.within s.1 s.2
    ∙ c.in_ok-characters.ensures.items_if_clones_equal (λ x y e. e)
