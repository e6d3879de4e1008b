use Rattle.std.proofs.Common.{◌≡◌, ◌∙◌, sym, subst, ap, true, [], length}
use Rattle.lock_queue.specs.declared.call.LockCall.TheVariants.{DequeueAll}
use Rattle.lock_queue.specs.Grants.{left_of}
use Rattle.plain_table.specs.GrantSteps.{marks_behind, raised_behind}
use Rattle.lock_queue.specs.WellFormed.{are_well_formed}
use Rattle.plain_table.proofs.MarkLaws.{woken-released, marks-released}
use Rattle.lock_queue.proofs.WellKept.{well-released}
use Rattle.plain_table.proofs.plain.PlainTableLockTable.release_waking.Goals as goal

pub invariant_of-self : goal.invariant_of-self
invariant_of-self g c = record {
  sized = c.args.self.now.sized;
  well = subst (λ l. are_well_formed l ≡ true) (sym c.release.ensures) (well-released c.args.self.now.rows.present c.args.job c.args.self.now.well);
}

pub fill_woken-requires-clause-marks : goal.fill_woken-requires-clause-marks
fill_woken-requires-clause-marks g c =
    let present = c.args.self.now.rows.present in
    let left = left_of c.args.job DequeueAll in
    let marks : c.as_slice-2.result.now ≡ marks_behind left [] present =
    c.as_slice-2.ensures.value ∙ c.mark.ensures ∙ ap (marks_behind left []) c.as_slice.ensures.value in
    ap length marks ∙ marks-released present c.as_slice-3.result.now c.args.job (c.as_slice-3.ensures.value ∙ c.release.ensures)

pub returns-clause-woken : goal.returns-clause-woken
returns-clause-woken g c =
    let present = c.args.self.now.rows.present in
    let left = left_of c.args.job DequeueAll in
    let marks : c.as_slice-2.result.now ≡ marks_behind left [] present =
    c.as_slice-2.ensures.value ∙ c.mark.ensures ∙ ap (marks_behind left []) c.as_slice.ensures.value in
    c.fill_woken.ensures ∙ ap (λ m. raised_behind [] m c.as_slice-3.result.now) marks
    ∙ woken-released present c.as_slice-3.result.now c.args.job (c.as_slice-3.ensures.value ∙ c.release.ensures)
