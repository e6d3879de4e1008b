use Rattle.std.proofs.Common.{◌≡◌, ◌<◌, ◌+◌, ◌-◌, ◌++◌, ◌∙◌, ap, arith, ℕ, replicate}
use Rattle.ddt_timeline.specs.Histories.{one_step, things_in}
use Rattle.ddt_moves.specs.Replays.{machine_in, steps_made, to_come}
use Rattle.ddt_moves.proofs.TurnLemmas.{after-more, after-none, behind-more, behind-none, made-more, made-none}
use Rattle.ddt_moves.proofs.replays.Replay.skip_to.Goals as goal

pub returns-then-not-go_before_step-clause-to_come : goal.returns-then-not-go_before_step-clause-to_come
returns-then-not-go_before_step-clause-to_come c =
    let some : 0 < c.args.steps - steps_made c.loop-self.self = omega (arith, c.loop-self-test.true) in
    behind-none (c.args.steps - steps_made c.loop-self.self) (to_come c.loop-self.self) (to_come c.go_before_step.new.self) some
    c.go_before_step.ensures.to_come (c.go_before_step.ensures.end c.if-not-go_before_step.true)
    ∙ c.loop-self.invariant.ahead

pub returns-then-not-go_before_step-clause-machine : goal.returns-then-not-go_before_step-clause-machine
returns-then-not-go_before_step-clause-machine c =
    let some : 0 < c.args.steps - steps_made c.loop-self.self = omega (arith, c.loop-self-test.true) in
    after-none (c.args.steps - steps_made c.loop-self.self) (to_come c.loop-self.self) (to_come c.go_before_step.new.self)
    (machine_in c.loop-self.self) (machine_in c.go_before_step.new.self) some c.go_before_step.ensures.to_come
    (c.go_before_step.ensures.end c.if-not-go_before_step.true) c.go_before_step.ensures.machine
    ∙ c.loop-self.invariant.there

pub returns-then-not-go_before_step-clause-steps : goal.returns-then-not-go_before_step-clause-steps
returns-then-not-go_before_step-clause-steps c =
    made-none (c.args.steps - steps_made c.loop-self.self) (steps_made c.loop-self.self) (steps_made c.go_before_step.new.self) _
    (to_come c.loop-self.self) (to_come c.go_before_step.new.self) c.go_before_step.ensures.steps c.go_before_step.ensures.to_come
    (c.go_before_step.ensures.end c.if-not-go_before_step.true) c.loop-self.invariant.made

pub loop-self-preserved : goal.loop-self-preserved
loop-self-preserved c =
    let count : ℕ = c.min-count.result in
    let at = c.go_before_step.new.self in
    let n : ℕ = c.args.steps - steps_made at in
    let n' : ℕ = c.args.steps - steps_made c.loop-self.self in
    let m : ℕ = c.args.steps - (at.steps + c.from-in-loop-self.result) in
    let later = things_in at.entries.now ++ replicate at.part one_step in
    let stays : steps_made at ≡ steps_made c.loop-self.self = c.go_before_step.ensures.steps in
    let some : 0 < n' = omega (arith, c.loop-self-test.true) in
    let same : n ≡ n' = ap (λ (k : ℕ). c.args.steps - k) stays in
    let lefts : at.left ≡ count + (at.left - count) = omega (arith, c.min-count.ensures, c.from.ensures) in
    let steps : n ≡ count + m = omega (arith, c.min-count.ensures, c.from-in-loop-self.ensures) in
    record {
      ahead =
          behind-more count at.left (at.left - count) m n n' (to_come c.loop-self.self) later lefts steps same some c.go_before_step.ensures.to_come
          ∙ c.loop-self.invariant.ahead;
      there =
          after-more count at.left (at.left - count) m n n' (to_come c.loop-self.self) later (machine_in c.loop-self.self) (machine_in at)
          c.steps.new.self lefts steps same some c.go_before_step.ensures.to_come c.go_before_step.ensures.machine c.steps.ensures.state
          ∙ c.loop-self.invariant.there;
      made =
          made-more count c.from-in-loop-self.result at.left (at.left - count) m n n' (steps_made c.loop-self.self) (steps_made at) _
          (to_come c.loop-self.self) later c.from-in-loop-self.ensures lefts steps same stays c.go_before_step.ensures.to_come
          c.loop-self.invariant.made;
    }
