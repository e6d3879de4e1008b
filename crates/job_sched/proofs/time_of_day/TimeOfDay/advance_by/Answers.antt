use Rattle.std.proofs.Common.{◌≡◌, ◌<◌, ◌∙◌, sym, ap, ℕ, zero, suc, ◌+◌, ◌%◌, arith}
use Rattle.job_sched.specs.Times.{later}
use Rattle.job_sched.specs.declared.time_of_day.TheConstants.{TICKS_A_DAY}
use Rattle.job_sched.proofs.time_of_day.TimeOfDay.advance_by.Goals as goal

-- tick by tick, or all at once
later-is : (t n : ℕ) → t < TICKS_A_DAY → later t n ≡ (t + n) % TICKS_A_DAY
later-is t zero low = omega arith
later-is t (suc n) low =
    let e : ((t + n) % TICKS_A_DAY + 1) % TICKS_A_DAY ≡ (t + suc n) % TICKS_A_DAY = omega arith in
    ap (λ (m : ℕ). (m + 1) % TICKS_A_DAY) (later-is t n low) ∙ e

pub returns : goal.returns
returns c =
    let low : c.self.inside.ticks < TICKS_A_DAY = c.self.invariant in
    rw (← c.self.view_is, c.from.ensures, c.from-2.ensures, c.from-3.ensures) (sym (later-is c.self.inside.ticks c.args.ticks low))
