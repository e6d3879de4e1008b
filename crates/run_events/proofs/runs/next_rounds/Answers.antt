use Rattle.std.proofs.Common.{◌∙◌, ap, ◌-◌, ◌++◌, true, List}
use Rattle.machine.specs.Machine.{S, after}
use Rattle.machine.specs.Rounds.{rounds}
use Rattle.run_events.specs.Facts.{facts_of_step}
use Rattle.run_events.specs.declared.facts.Fact.{Fact}
use Rattle.run_events.proofs.RunLemmas.{told-rounds}
use Rattle.run_events.proofs.runs.next_rounds.Goals as goal

pub returns-clause-runs : goal.returns-clause-runs
returns-clause-runs g c =
    let r = c.in_ok-rounds.ensures.rounds in
    let x : S = after (rounds (c.in_ok-rounds.rounds.made - 1) true) c.args.system.now in
    told-rounds c.args.system.now c.rounds_facts.new.system c.tick_facts.new.system c.in_ok-rounds.rounds.made c.append.new.self.items
    r.least r.quiet r.state c.tick_facts.ensures.state
    (c.in_ok-append.ensures.items
    ∙ ap (λ (l : List Fact). l ++ c.in_ok-later.later.items) r.facts
    ∙ ap (λ (l : List Fact). facts_of_step x ++ l) c.in_ok-later.ensures.facts)
