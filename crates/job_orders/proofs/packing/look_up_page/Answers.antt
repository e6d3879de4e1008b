use Rattle.std.proofs.Common.{ℕ, List, [], length, ap, ◌∙◌}
use Rattle.job_orders.specs.declared.tables.TheConstants.{PAGE_WORDS}
use Rattle.job_orders.specs.Pages.{numbers-Decides, same_numbers}
use Rattle.job_orders.proofs.Numbers.{range-length, stored}
use Rattle.job_orders.proofs.packing.look_up_page.Goals as goal

pub returns-clause-page : goal.returns-clause-page
returns-clause-page c =
    let s = c.in_ok-number.ensures.stored in
    stored (λ (p : List ℕ). p) [] same_numbers numbers-Decides c.number_of.new.self c.in_ok-number.number c.in_ok-words.words.items s.0
    c.in_ok-number.ensures.within s.1 s.2
    ∙ c.in_ok-words.ensures.items_if_clones_equal (λ x y e. e)

pub returns-clause-there : goal.returns-clause-there
returns-clause-there c = (
  c.in_ok-number.ensures.within,
  let s = c.in_ok-number.ensures.stored in
      ap length (stored (λ (p : List ℕ). p) [] same_numbers numbers-Decides c.number_of.new.self c.in_ok-number.number c.in_ok-words.words.items s.0
      c.in_ok-number.ensures.within s.1 s.2
      ∙ c.in_ok-words.ensures.items_if_clones_equal (λ x y e. e))
      ∙ range-length c.args.words.now c.args.at PAGE_WORDS c.requires,
)
