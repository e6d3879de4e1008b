use Rattle.std.proofs.Common.{◌≡◌, ◌∙◌, ◌+◌, ◌-◌, ◌^◌, sym, ap, refl, true, ℕ}
use Rattle.std.specs.Prelude.{min}
use Rattle.machine.specs.Machine.{S}
use Rattle.ddt_moves.specs.Replays.{is_ready, machine_in, steps_made, stood, to_come}
use Rattle.ddt_moves.proofs.ReplayLemmas.{fewer-left, found-end, found-step, last_found, newer-same}
use Rattle.ddt_moves.proofs.past_steps.last_at.Goals as goal

pub loop-address-init : goal.loop-address-init
loop-address-init c =
    rw (c.in_ok-replay.ensures.to_come, c.in_ok-replay.ensures.steps, c.in_ok-replay.ensures.machine) refl

pub loop-address-smaller : goal.loop-address-smaller
loop-address-smaller c =
    let ready : is_ready c.go_before_step.new.self ≡ true = sym c.go_before_step.ensures.ready ∙ c.loop-address-test.true in
    fewer-left (to_come c.step.new.self) (to_come c.loop-address.replay) (c.step.ensures.made ready ∙ c.go_before_step.ensures.to_come)

pub loop-address-preserved : goal.loop-address-preserved
loop-address-preserved c =
    let ready : is_ready c.go_before_step.new.self ≡ true = sym c.go_before_step.ensures.ready ∙ c.loop-address-test.true in
    found-step (stood c.args.job c.args.address) (to_come c.loop-address.replay) (to_come c.step.new.self)
    (steps_made c.loop-address.replay) (steps_made c.step.new.self)
    (machine_in c.loop-address.replay) (machine_in c.go_before_step.new.self) (machine_in c.step.new.self)
    c.loop-address.last c.newer-last.result _ c.loop-address.invariant
    (c.step.ensures.made ready ∙ c.go_before_step.ensures.to_come)
    c.go_before_step.ensures.machine
    (c.step.ensures.machine ready)
    (c.step.ensures.steps ready ∙ ap (λ (n : ℕ). min (2 ^ 64 - 1) (n + 1)) c.go_before_step.ensures.steps)
    (c.newer-last.ensures
    ∙ newer-same _ _ _ _ _ (c.stands_at.ensures ∙ ap (λ (x : S). stood c.args.job c.args.address x) c.machine.ensures)
    (c.steps.ensures ∙ c.go_before_step.ensures.steps))

pub returns : goal.returns
returns c =
    last_found _ _ _ _
    (found-end _ (to_come c.loop-address.replay) (to_come c.go_before_step.new.self) _ _ c.loop-address.last _ c.loop-address.invariant
    c.go_before_step.ensures.to_come (c.go_before_step.ensures.end c.loop-address-test.false))
