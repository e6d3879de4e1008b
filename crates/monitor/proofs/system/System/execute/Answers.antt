use Rattle.std.proofs.Common.{◌∙◌, sym, ap}
use Rattle.machine.specs.Deposits.{is_done_by_hand}
use Rattle.monitor.proofs.HandResults.{nothing_is_done, other_jobs_stay, sound_by_hand}
use Rattle.monitor.proofs.system.System.execute.Goals as goal

pub invariant_of-self : goal.invariant_of-self
invariant_of-self g c = rw c.execute.ensures.state (sound_by_hand _ _ _ c.self.invariant)

pub returns-clause-others : goal.returns-clause-others
returns-clause-others g c =
    λ m b other. rw (← c.self.view_is, c.execute.ensures.state) (other_jobs_stay c.self.inside.parts c.args.n c.args.word m b other)

pub returns-clause-kept : goal.returns-clause-kept
returns-clause-kept g c =
    λ not. rw (← c.self.view_is)
    (c.execute.ensures.state
    ∙ nothing_is_done c.self.inside.parts c.args.n c.args.word (sym (ap is_done_by_hand c.execute.ensures.end) ∙ not))
