use Rattle.std.proofs.Common.{◌≡◌, ◌∙◌, ◌+◌, ◌-◌, ◌^◌, sym, ap, refl, not, true, ℕ, Option}
use Rattle.std.specs.Prelude.{min}
use Rattle.machine.specs.Machine.{S}
use Rattle.machine.specs.Views.{word_in}
use Rattle.ddt_timeline.specs.Stops.{is_word, round}
use Rattle.ddt_moves.specs.Replays.{changes, is_ready, machine_in, steps_made, to_come}
use Rattle.ddt_moves.proofs.ReplayLemmas.{fewer-left, found-end, found-step, last_found, newer-same}
use Rattle.ddt_moves.proofs.past_steps.last_write.Goals as goal

pub loop-replay-init : goal.loop-replay-init
loop-replay-init c =
    rw (c.in_ok-replay.ensures.to_come, c.in_ok-replay.ensures.steps, c.in_ok-replay.ensures.machine) refl

pub loop-replay-smaller : goal.loop-replay-smaller
loop-replay-smaller c =
    let ready : is_ready c.go_before_step.new.self ≡ true = sym c.go_before_step.ensures.ready ∙ c.loop-replay-test.true in
    fewer-left (to_come c.step.new.self) (to_come c.loop-replay.replay) (c.step.ensures.made ready ∙ c.go_before_step.ensures.to_come)

pub loop-replay-preserved : goal.loop-replay-preserved
loop-replay-preserved c =
    let ready : is_ready c.go_before_step.new.self ≡ true = sym c.go_before_step.ensures.ready ∙ c.loop-replay-test.true in
    let before : S = machine_in c.go_before_step.new.self in
    found-step (changes c.args.job c.args.address) (to_come c.loop-replay.replay) (to_come c.step.new.self)
    (steps_made c.loop-replay.replay) (steps_made c.step.new.self)
    (machine_in c.loop-replay.replay) before (machine_in c.step.new.self)
    c.loop-replay.last c.newer-last.result _ c.loop-replay.invariant
    (c.step.ensures.made ready ∙ c.go_before_step.ensures.to_come)
    c.go_before_step.ensures.machine
    (c.step.ensures.machine ready)
    (c.step.ensures.steps ready ∙ ap (λ (n : ℕ). min (2 ^ 64 - 1) (n + 1)) c.go_before_step.ensures.steps)
    (c.newer-last.ensures
    ∙ newer-same _ _ _ _ _
    (c.is_changed.ensures
    ∙ ap (λ (o : Option ℕ). not (is_word o c.peek-word.result))
    (c.peek.ensures
    ∙ ap (λ (x : S). word_in x.world c.args.job c.args.address) (c.machine-in-loop-replay.ensures ∙ c.step.ensures.machine ready))
    ∙ ap (λ (o : Option ℕ). not (is_word (word_in (round before).world c.args.job c.args.address) o))
    (c.peek-word.ensures ∙ ap (λ (x : S). word_in x.world c.args.job c.args.address) c.machine.ensures))
    (c.steps-steps.ensures ∙ c.go_before_step.ensures.steps))

pub returns : goal.returns
returns c =
    last_found _ _ _ _
    (found-end _ (to_come c.loop-replay.replay) (to_come c.go_before_step.new.self) _ _ c.loop-replay.last _ c.loop-replay.invariant
    c.go_before_step.ensures.to_come (c.go_before_step.ensures.end c.loop-replay-test.false))
