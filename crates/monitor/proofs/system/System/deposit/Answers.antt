use Rattle.std.proofs.Common.{◌∙◌, sym}
use Rattle.monitor.proofs.DepositedWords.{nothing_changes, other_words_stay, word_is_there}
use Rattle.monitor.proofs.SoundDeposits.{sound_deposited}
use Rattle.monitor.proofs.system.System.deposit.Goals as goal

pub invariant_of-self : goal.invariant_of-self
invariant_of-self g c = rw c.deposit.ensures.state (sound_deposited _ _ _ _ c.self.invariant)

pub returns-clause-there : goal.returns-clause-there
returns-clause-there g c =
    λ found. rw c.deposit.ensures.state (word_is_there c.self.inside.parts c.args.n c.args.a c.args.w c.self.invariant.safe (sym c.deposit.ensures.found ∙ found))

pub returns-clause-others : goal.returns-clause-others
returns-clause-others g c =
    λ m b other. rw (← c.self.view_is, c.deposit.ensures.state)
    (other_words_stay c.self.inside.parts c.args.n c.args.a c.args.w m b c.self.invariant.safe other)

pub returns-clause-kept : goal.returns-clause-kept
returns-clause-kept g c =
    λ found. rw (← c.self.view_is) (c.deposit.ensures.state ∙ nothing_changes c.self.inside.parts c.args.n c.args.a c.args.w (sym c.deposit.ensures.found ∙ found))
