use Rattle.std.proofs.Common.{◌≡◌, ◌∙◌, sym, ap, arith}
use Rattle.job_moves.specs.Moves.{is_clear}
use Rattle.job_orders.proofs.Ended.{clear-first, clear-next}
use Rattle.job_orders.proofs.looking.reason_for.Goals as goal

pub loop-k-init : goal.loop-k-init
loop-k-init c = clear-first c.args.machine.now

pub loop-k-preserved : goal.loop-k-preserved
loop-k-preserved c = clear-next c.loop-k.k c.args.machine.now c.loop-k.invariant c.in_default.ensures

pub returns : goal.returns
returns c =
    let end : c.loop-k.k ≡ c.args.count = omega arith in
    sym (ap (λ n. is_clear n c.args.machine.now) end) ∙ c.loop-k.invariant
