use Rattle.std.proofs.Common.{◌≡◌, sym, subst, true}
use Rattle.lock_queue.specs.WellFormed.{are_well_formed}
use Rattle.lock_queue.proofs.WellKept.{right_job, well-arrival}
use Rattle.plain_table.proofs.rows.Rows.arrive.Goals as goal

pub returns-then-are_fitting-clause-well : goal.returns-then-are_fitting-clause-well
returns-then-are_fitting-clause-well g c = λ well.
    subst (λ l. are_well_formed l ≡ true) (sym c.push.ensures.value)
    (well-arrival c.args.self.now.present c.args.job c.args.asking.now _ c.args.wants.now (right_job c.args.job c.requires.job)
    c.requires.some c.requires.unshared c.requires.passed c.push.ensures.few c.push.ensures.range well)

pub returns-in-Blocking-clause-well : goal.returns-in-Blocking-clause-well
returns-in-Blocking-clause-well g c = λ well.
    subst (λ l. are_well_formed l ≡ true) (sym c.push-in-Blocking.ensures.value)
    (well-arrival c.args.self.now.present c.args.job c.args.asking.now _ c.args.wants.now (right_job c.args.job c.requires.job)
    c.requires.some c.requires.unshared c.requires.passed c.push-in-Blocking.ensures.few c.push-in-Blocking.ensures.range well)

pub returns-in-Interrupt-kind-clause-well : goal.returns-in-Interrupt-kind-clause-well
returns-in-Interrupt-kind-clause-well g c = λ well.
    subst (λ l. are_well_formed l ≡ true) (sym c.push-in-Interrupt-kind.ensures.value)
    (well-arrival c.args.self.now.present c.args.job c.args.asking.now _ c.args.wants.now (right_job c.args.job c.requires.job)
    c.requires.some c.requires.unshared c.requires.passed c.push-in-Interrupt-kind.ensures.few
    c.push-in-Interrupt-kind.ensures.range well)
