use Rattle.std.proofs.Common.{◌≡◌, ◌∙◌, sym, ap, [], length}
use Rattle.lock_queue.specs.Grants.{left_of, woken_by}
use Rattle.plain_table.specs.GrantSteps.{marks_behind, raised_behind}
use Rattle.lock_queue.proofs.GrantLaws.{woken-enqueue}
use Rattle.plain_table.proofs.MarkLaws.{woken-done, marks-done}
use Rattle.plain_table.proofs.plain.PlainTableLockTable.call_waking.Goals as goal

pub invariant_of-self : goal.invariant_of-self
invariant_of-self g c = record { sized = c.args.self.now.sized; well = c.call.ensures.well c.args.self.now.well }

pub returns-in-Enqueue-clause-woken : goal.returns-in-Enqueue-clause-woken
returns-in-Enqueue-clause-woken g c =
    let present = c.args.self.now.rows.present in
    let q = c.in-Enqueue in
    c.clear.ensures
    ∙ sym (ap (woken_by g.row.REQS present c.args.job) q.is ∙ woken-enqueue g.row.REQS present c.args.job q.asking q.wants)

pub invariant_of-self-2 : goal.invariant_of-self-2
invariant_of-self-2 g c = record { sized = c.args.self.now.sized; well = c.call-reply.ensures.well c.args.self.now.well }

pub fill_woken-requires-clause-marks : goal.fill_woken-requires-clause-marks
fill_woken-requires-clause-marks g c =
    let present = c.args.self.now.rows.present in
    let left = left_of c.args.job c.args.call.now in
    let marks : c.as_slice-in-Done.result.now ≡ marks_behind left [] present =
    c.as_slice-in-Done.ensures.value ∙ c.mark.ensures ∙ ap (marks_behind left []) c.as_slice.ensures.value in
    ap length marks
    ∙ marks-done g.row.REQS present c.as_slice-in-Done-2.result.now c.args.job c.args.call.now (sym c.call-reply.ensures.reply ∙ c.in-Done.is)
    (c.as_slice-in-Done-2.ensures.value ∙ c.call-reply.ensures.requests)

pub returns-in-Done-clause-woken : goal.returns-in-Done-clause-woken
returns-in-Done-clause-woken g c =
    let present = c.args.self.now.rows.present in
    let left = left_of c.args.job c.args.call.now in
    let marks : c.as_slice-in-Done.result.now ≡ marks_behind left [] present =
    c.as_slice-in-Done.ensures.value ∙ c.mark.ensures ∙ ap (marks_behind left []) c.as_slice.ensures.value in
    c.fill_woken.ensures ∙ ap (λ m. raised_behind [] m c.as_slice-in-Done-2.result.now) marks
    ∙ woken-done g.row.REQS present c.as_slice-in-Done-2.result.now c.args.job c.args.call.now (sym c.call-reply.ensures.reply ∙ c.in-Done.is)
    (c.as_slice-in-Done-2.ensures.value ∙ c.call-reply.ensures.requests)
