use Rattle.std.proofs.Common.{◌≡◌, ◌∙◌, ap, ℕ}
use Rattle.lock_queue.specs.Names.{filled_up, number_at, numbers_of}
use Rattle.lock_queue.proofs.name.NameText.numbers.Goals as goal

pub returns : goal.returns
unfolding numbers_of
returns c =
    let at : (i : ℕ) → number_at c.self.inside.bytes i ≡ number_at (filled_up c.args.self.now) i =
    λ i. ap (λ bytes. number_at bytes i) (c.self.invariant.2 ∙ ap filled_up c.self.view_is) in
    let first = c.number_at.ensures ∙ at 0 in
    let second = c.number_at-2.ensures ∙ at 8 in
    let third = c.number_at-3.ensures ∙ at 16 in
    let fourth = c.number_at-4.ensures ∙ at 24 in
    cc
