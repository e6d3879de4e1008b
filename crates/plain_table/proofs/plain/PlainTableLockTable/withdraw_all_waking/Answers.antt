use Rattle.std.proofs.Common.{◌≡◌, ◌∙◌, sym, subst, ap, true, [], length}
use Rattle.lock_queue.specs.Jobs.{is_among}
use Rattle.lock_queue.specs.WellFormed.{are_well_formed}
use Rattle.lock_queue.proofs.WellKept.{well-withdrawn}
use Rattle.plain_table.specs.GrantSteps.{marks_without, raised_behind}
use Rattle.plain_table.proofs.MarkLaws.{woken-withdrawn, marks-withdrawn}
use Rattle.plain_table.proofs.plain.PlainTableLockTable.withdraw_all_waking.Goals as goal

pub invariant_of-self : goal.invariant_of-self
invariant_of-self g c = record {
  sized = c.args.self.now.sized;
  well =
      subst (λ l. are_well_formed l ≡ true) (sym c.withdraw_all.ensures)
      (well-withdrawn c.args.self.now.rows.present (is_among c.args.jobs) c.args.self.now.well);
}

pub fill_woken-requires-clause-marks : goal.fill_woken-requires-clause-marks
fill_woken-requires-clause-marks g c =
    let present = c.args.self.now.rows.present in
    let marks : c.as_slice-2.result.now ≡ marks_without (is_among c.args.jobs) [] present =
    c.as_slice-2.ensures.value ∙ c.mark_without.ensures ∙ ap (marks_without (is_among c.args.jobs) []) c.as_slice.ensures.value in
    ap length marks ∙ marks-withdrawn present c.as_slice-3.result.now c.args.jobs (c.as_slice-3.ensures.value ∙ c.withdraw_all.ensures)

pub returns-clause-woken : goal.returns-clause-woken
returns-clause-woken g c =
    let present = c.args.self.now.rows.present in
    let marks : c.as_slice-2.result.now ≡ marks_without (is_among c.args.jobs) [] present =
    c.as_slice-2.ensures.value ∙ c.mark_without.ensures ∙ ap (marks_without (is_among c.args.jobs) []) c.as_slice.ensures.value in
    c.fill_woken.ensures ∙ ap (λ m. raised_behind [] m c.as_slice-3.result.now) marks
    ∙ woken-withdrawn present c.as_slice-3.result.now c.args.jobs (c.as_slice-3.ensures.value ∙ c.withdraw_all.ensures)
