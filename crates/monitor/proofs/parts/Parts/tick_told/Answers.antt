use Rattle.std.proofs.Common.{◌≡◌, ◌∙◌, sym, ap, ℕ, false, List, refl}
use Rattle.lock_queue.specs.Jobs.{is_among, withdrawn_where}
use Rattle.lock_queue.specs.declared.request.Request.{Request}
use Rattle.job_sched.specs.Changes.{ticked_table}
use Rattle.job_sched.specs.Limits.{expires}
use Rattle.job_sched.proofs.Limits.{nobody, withdrawn-none}
use Rattle.monitor.proofs.parts.Parts.tick_told.Goals as goal

-- where no limit ended the requests stay as they are
pub returns-then-ended-eq0-clause-state : goal.returns-then-ended-eq0-clause-state
returns-then-ended-eq0-clause-state g c =
    let world = c.self-inside.inside.0.0 in
    let requests : List Request = g.L.LockTable.requests world.locks in
    let jobs = (ticked_table world.table).jobs in
    let none : (n : ℕ) → expires requests jobs n ≡ false =
    λ n. sym (c.pass_tick-ended.ensures.ended n) ∙ ap (λ (k : ℕ). is_among k n) c.if-ended-eq0.true ∙ nobody n in
    let same : withdrawn_where requests (expires requests jobs) ≡ requests = withdrawn-none requests (expires requests jobs) none in
    rw (← c.self.view_is, ← c.self-inside.view_is, c.pass_tick-ended.ensures.table, c.advance.ensures, same) refl
