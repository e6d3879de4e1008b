use Rattle.std.proofs.Common.{◌≡◌, ◌∙◌, ap, ℕ, false, arith}
use Rattle.machine.specs.Machine.{after}
use Rattle.machine.specs.Rounds.{rounds}
use Rattle.monitor.proofs.parts.Parts.step.Goals as goal

-- a step is one round
pub returns-clause-state : goal.returns-clause-state
returns-clause-state g c =
    let one : c.run_next.result.made ≡ 1 = omega (arith, c.run_next.ensures.least, c.run_next.ensures.most) in
    c.run_next.ensures.state ∙ ap (λ (k : ℕ). after (rounds k false) c.args.self.now) one
