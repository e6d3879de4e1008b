use Rattle.std.proofs.Common.{arith, inl, inr}
use Rattle.std.proofs.lemmas.Bool.{cases_eq}
use Rattle.std.proofs.lemmas.Grind.{common_steps}
use Rattle.lock_table.proofs.steps.renew_marked.Goals as goal

pub returns-clause-flips : goal.returns-clause-flips
returns-clause-flips g c x h = elim (cases_eq x c.args.p) [ inl e ↦ grind (arith, common_steps) | inr ne ↦ grind (arith, common_steps) ]
