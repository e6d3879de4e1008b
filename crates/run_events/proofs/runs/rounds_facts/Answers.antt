use Rattle.std.proofs.Common.{◌≡◌, ◌∙◌, ap, ◌-◌, true, Option, arith, rules}
use Rattle.std.proofs.lemmas.Grind.{common_steps}
use Rattle.machine.specs.Machine.{S, after}
use Rattle.machine.specs.Rounds.{rounds}
use Rattle.machine.specs.Told.{before_in}
use Rattle.machine.specs.declared.told.Told.{Told}
use Rattle.run_events.specs.Runs.{has_called, job_told}
use Rattle.run_events.proofs.RunLemmas.{quiet-round, step-told}
use Rattle.run_events.proofs.runs.rounds_facts.Goals as goal

pub returns-clause-rounds : goal.returns-clause-rounds
returns-clause-rounds g c =
    let n = c.rounds_told-made.result.0 in
    let x : S = after (rounds (n - 1) true) c.args.system.now in
    let found : c.in_ok-before.before.items ≡ before_in x =
    first_of (search rules, grind (arith, common_steps)) in
    record {
      least = c.rounds_told-made.ensures.least;
      state = c.rounds_told-made.ensures.state;
      quiet = λ k less. quiet-round (after (rounds k true) c.args.system.now) (c.rounds_told-made.ensures.quiet k less);
      job = c.job_told-job.ensures ∙ ap (λ (o : Option Told). job_told o) c.rounds_told-made.ensures.told;
      called = c.has_called-has_called.ensures ∙ ap (λ (o : Option Told). has_called o) c.rounds_told-made.ensures.told;
      facts =
          step-told x c.rounds_told-made.new.self c.in_ok-before.before.items _ _ _ c.in_ok-facts.facts.items
          c.as_slice.ensures.value found c.rounds_told-made.ensures.read c.rounds_told-made.ensures.state c.rounds_told-made.ensures.told
          c.in_ok-facts.ensures;
    }
