use Rattle.std.proofs.Common.{◌≡◌, ◌∙◌, ap, Option, Some, None, is_some, option_map, refl}
use Rattle.std.proofs.lemmas.Result.{IfOk-weaker}
use Rattle.lock_reasons.specs.declared.causes.Cause.{Cause}
use Rattle.lock_reasons.specs.Causes.{as_cause}
use Rattle.lock_reasons.proofs.CauseLemmas.{cause-law}
use Rattle.lock_reasons.proofs.causes.cause_of.Goals as goal

same-there : (o : Option Cause) → is_some o ≡ is_some (option_map as_cause o)
same-there (Some cause) = refl
same-there None = refl

pub returns-clause-law : goal.returns-clause-law
returns-clause-law c =
    let law = cause-law c.args.size c.args.requests.now c.args.job c.args.call.now c.in_ok-reason.reason c.in_ok-reason.ensures.law in
    IfOk-weaker c.cause_for.result _ _ (λ cause is. same-there cause ∙ ap is_some is ∙ law) c.cause_for.ensures
