use Rattle.std.proofs.Common.{◌≡◌, ◌∙◌, sym, ap, ℕ, false, List, refl}
use Rattle.lock_queue.specs.Jobs.{is_among, withdrawn_where}
use Rattle.lock_queue.specs.declared.request.Request.{Request}
use Rattle.job_sched.specs.Changes.{ticked_table}
use Rattle.job_sched.specs.Limits.{expires}
use Rattle.job_sched.proofs.Limits.{nobody, withdrawn-none}
use Rattle.monitor.proofs.parts.Parts.tick.Goals as goal

-- where no limit ended the requests stay as they are
pub returns-else-ended-ne0 : goal.returns-else-ended-ne0
returns-else-ended-ne0 g c =
    let world = c.self-inside.inside.0.0 in
    let requests : List Request = g.L.LockTable.requests world.locks in
    let jobs = (ticked_table world.table).jobs in
    let none : (n : ℕ) → expires requests jobs n ≡ false =
    λ n. sym (c.pass_tick-ended.ensures.ended n) ∙ ap (λ (k : ℕ). is_among k n) c.if-ended-ne0.false ∙ nobody n in
    let same : withdrawn_where requests (expires requests jobs) ≡ requests = withdrawn-none requests (expires requests jobs) none in
    rw (← c.self.view_is, ← c.self-inside.view_is, c.pass_tick-ended.ensures.table, c.advance.ensures, same) refl
