use Rattle.std.proofs.Common.{◌≡◌, ◌+◌, ◌∙◌, sym, ap, arith}
use Rattle.job_orders.specs.Endings.{rests}
use Rattle.job_orders.proofs.Ended.{rests-fails, rests-next, rests-none}
use Rattle.job_orders.proofs.ends.is_end.Goals as goal

pub loop-k-init : goal.loop-k-init
loop-k-init c = rests-none c.args.machine.now

pub loop-k-preserved : goal.loop-k-preserved
loop-k-preserved c = rests-next c.loop-k.k c.args.machine.now c.loop-k.invariant (sym c.can_run.ensures ∙ c.if-can_run.false)

pub returns-then-can_run : goal.returns-then-can_run
returns-then-can_run c =
    sym (rests-fails c.args.count (c.loop-k.k + 1) c.args.machine.now (omega arith) (omega arith) (sym c.can_run.ensures ∙ c.if-can_run.true))

pub returns : goal.returns
returns c =
    let end : c.args.count ≡ c.loop-k.k = omega arith in
    sym (ap (λ n. rests n c.args.machine.now) end ∙ c.loop-k.invariant)
