use Rattle.std.proofs.Common.{◌≡◌, ◌∙◌, false, sym, ap}
use Rattle.job_order_laws.specs.Noticed.{is_noticed}
use Rattle.job_order_laws.specs.Turned.{V, can_run}
use Rattle.job_moves.specs.Moves.{has_limit, reads_clock}
use Rattle.job_orders.proofs.Ended.{idle-clear, noticed-clear}
use Rattle.job_orders.proofs.looking.reason_of.Goals as goal

pub returns-then-not-can_run : goal.returns-then-not-can_run
returns-then-not-can_run c =
    let limit : has_limit c.args.machine.now.machine.world c.args.n ≡ false =
    ap (λ (v : V). has_limit v.machine.world c.args.n) (sym c.machine.view_is) ∙ sym c.has_limit.ensures ∙ c.if-has_limit.false in
    idle-clear _ _ (is_noticed c.args.machine.now.machine.world c.args.n) (reads_clock c.args.machine.now.machine.world c.args.n)
    limit (sym c.can_run.ensures ∙ c.if-not-can_run.true)

pub returns : goal.returns
returns c =
    let limit : has_limit c.args.machine.now.machine.world c.args.n ≡ false =
    ap (λ (v : V). has_limit v.machine.world c.args.n) (sym c.machine.view_is) ∙ sym c.has_limit.ensures ∙ c.if-has_limit.false in
    let clock : reads_clock c.args.machine.now.machine.world c.args.n ≡ false =
    ap (λ (v : V). reads_clock v.machine.world c.args.n) (sym c.machine.view_is) ∙ sym c.reads_clock.ensures ∙ c.if-reads_clock.false in
    noticed-clear (has_limit c.args.machine.now.machine.world c.args.n) (can_run c.args.machine.now.machine.world c.args.n)
    (is_noticed c.args.machine.now.machine.world c.args.n) (reads_clock c.args.machine.now.machine.world c.args.n)
    limit (sym c.can_run.ensures ∙ c.if-not-can_run.false) clock (sym c.is_quiet.ensures ∙ c.if-is_quiet.false)
