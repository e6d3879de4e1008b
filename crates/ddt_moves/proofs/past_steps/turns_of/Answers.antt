use Rattle.std.proofs.Common.{◌≡◌, ◌∙◌, ◌+◌, ◌-◌, ◌^◌, ◌++◌, ◌∷◌, [], sym, ap, true, ℕ, Option}
use Rattle.std.specs.Prelude.{min}
use Rattle.ddt_timeline.specs.Stops.{is_job}
use Rattle.ddt_moves.specs.Replays.{is_ready, machine_in, steps_made, to_come}
use Rattle.ddt_moves.specs.Turns.{kept}
use Rattle.ddt_moves.proofs.ReplayLemmas.{fewer-left}
use Rattle.ddt_moves.proofs.TurnLemmas.{all-kept, last-length, more-kept, same-kept}
use Rattle.ddt_moves.proofs.past_steps.turns_of.Goals as goal

pub loop-replay-smaller-in-Continue-1 : goal.loop-replay-smaller-in-Continue-1
loop-replay-smaller-in-Continue-1 c =
    let ready : is_ready c.go_before_step.new.self ≡ true = sym c.go_before_step.ensures.ready ∙ c.loop-replay-test.true in
    fewer-left (to_come c.step.new.self) (to_come c.loop-replay.replay) (c.step.ensures.made ready ∙ c.go_before_step.ensures.to_come)

pub loop-replay-smaller : goal.loop-replay-smaller
loop-replay-smaller c =
    let ready : is_ready c.go_before_step.new.self ≡ true = sym c.go_before_step.ensures.ready ∙ c.loop-replay-test.true in
    fewer-left (to_come c.step.new.self) (to_come c.loop-replay.replay) (c.step.ensures.made ready ∙ c.go_before_step.ensures.to_come)

pub loop-replay-preserved-in-Continue-1 : goal.loop-replay-preserved-in-Continue-1
loop-replay-preserved-in-Continue-1 c =
    let ready : is_ready c.go_before_step.new.self ≡ true = sym c.go_before_step.ensures.ready ∙ c.loop-replay-test.true in
    record {
      all =
          more-kept c.args.job c.args.most (to_come c.loop-replay.replay) (to_come c.step.new.self) (steps_made c.loop-replay.replay)
          (steps_made c.step.new.self) c.steps-steps.result (machine_in c.loop-replay.replay) (machine_in c.go_before_step.new.self)
          (machine_in c.step.new.self) (kept c.loop-replay.turns) (kept c.keep.new.self) _
          (c.step.ensures.made ready ∙ c.go_before_step.ensures.to_come) c.go_before_step.ensures.machine (c.step.ensures.machine ready)
          (c.step.ensures.steps ready ∙ ap (λ (n : ℕ). min (2 ^ 64 - 1) (n + 1)) c.go_before_step.ensures.steps)
          (ap (λ (o : Option ℕ). is_job o c.args.job) (sym (c.step.ensures.ran ready)) ∙ sym c.is_job.ensures ∙ c.if-is_job.true)
          (c.steps-steps.ensures ∙ c.go_before_step.ensures.steps) c.in_ok-keep.ensures c.loop-replay.invariant.all;
      few = last-length c.args.most (kept c.loop-replay.turns ++ c.steps-steps.result ∷ []) (kept c.keep.new.self) c.in_ok-keep.ensures;
    }

pub loop-replay-preserved : goal.loop-replay-preserved
loop-replay-preserved c =
    let ready : is_ready c.go_before_step.new.self ≡ true = sym c.go_before_step.ensures.ready ∙ c.loop-replay-test.true in
    record {
      all =
          same-kept c.args.job c.args.most (to_come c.loop-replay.replay) (to_come c.step.new.self) (steps_made c.loop-replay.replay)
          (steps_made c.step.new.self) (machine_in c.loop-replay.replay) (machine_in c.go_before_step.new.self) (machine_in c.step.new.self)
          (kept c.loop-replay.turns) _
          (c.step.ensures.made ready ∙ c.go_before_step.ensures.to_come) c.go_before_step.ensures.machine (c.step.ensures.machine ready)
          (c.step.ensures.steps ready ∙ ap (λ (n : ℕ). min (2 ^ 64 - 1) (n + 1)) c.go_before_step.ensures.steps)
          (ap (λ (o : Option ℕ). is_job o c.args.job) (sym (c.step.ensures.ran ready)) ∙ sym c.is_job.ensures ∙ c.if-is_job.false)
          c.loop-replay.invariant.all;
      few = c.loop-replay.invariant.few;
    }

pub returns : goal.returns
returns c =
    all-kept c.args.job c.args.most (steps_made c.loop-replay.replay) (to_come c.loop-replay.replay) (to_come c.go_before_step.new.self)
    (machine_in c.loop-replay.replay) (kept c.loop-replay.turns) _ c.go_before_step.ensures.to_come
    (c.go_before_step.ensures.end c.loop-replay-test.false) c.loop-replay.invariant.few c.loop-replay.invariant.all
