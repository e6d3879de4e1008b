use Rattle.std.proofs.lemmas.Grind.{not_there}
use Rattle.lock_queue.proofs.name.NameText.as_str.Goals as goal

pub returns-in-Err-clause-value : goal.returns-in-Err-clause-value
returns-in-Err-clause-value c = absurd (not_there c.self.invariant.3 c.in-Err.ensures.cases.0)
