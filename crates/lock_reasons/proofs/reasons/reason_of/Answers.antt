use Rattle.std.proofs.Common.{arith}
use Rattle.lock_reasons.proofs.ReasonLemmas.{enqueue-law, modify-law, release-law}
use Rattle.lock_reasons.proofs.reasons.reason_of.Goals as goal

pub returns-in-Enqueue-clause-law : goal.returns-in-Enqueue-clause-law
returns-in-Enqueue-clause-law c =
    let law = enqueue-law c.args.size c.args.requests.now c.args.job c.in-Enqueue.asking c.in-Enqueue.wants in
    grind (arith, law)

pub returns-in-Modify-clause-law : goal.returns-in-Modify-clause-law
returns-in-Modify-clause-law c =
    let law = modify-law c.args.size c.args.requests.now c.args.job c.in-Modify.wants in
    grind (arith, law)

pub returns-in-DequeueNamed-clause-law : goal.returns-in-DequeueNamed-clause-law
returns-in-DequeueNamed-clause-law c =
    let law = release-law c.args.size c.args.requests.now c.args.job c.in-DequeueNamed.wants in
    grind (arith, law)
