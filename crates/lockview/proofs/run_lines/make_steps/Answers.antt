use Rattle.lockview.proofs.RoundLemmas.{round_facts, round_quiet, round_state, step_facts, step_quiet, step_state}
use Rattle.lockview.proofs.run_lines.make_steps.Goals as goal

pub returns-in_ok-rounds-in-Round-clause-state : goal.returns-in_ok-rounds-in-Round-clause-state
returns-in_ok-rounds-in-Round-clause-state c =
    rw c.in-Round.is (round_state c.args.machine.now c.rounds_facts.new.system c.in_ok-rounds-in-Round.rounds c.in_ok-rounds-in-Round.ensures.rounds)

pub returns-in_ok-rounds-in-Round-clause-facts : goal.returns-in_ok-rounds-in-Round-clause-facts
returns-in_ok-rounds-in-Round-clause-facts c =
    rw c.in-Round.is (round_facts c.args.machine.now c.rounds_facts.new.system c.in_ok-rounds-in-Round.rounds c.in_ok-rounds-in-Round.ensures.rounds)

pub returns-in_ok-rounds-in-Round-clause-quiet : goal.returns-in_ok-rounds-in-Round-clause-quiet
returns-in_ok-rounds-in-Round-clause-quiet c =
    rw c.in-Round.is (round_quiet c.args.machine.now c.rounds_facts.new.system c.in_ok-rounds-in-Round.rounds c.in_ok-rounds-in-Round.ensures.rounds)

pub returns-in_ok-step-in-Step-clause-state : goal.returns-in_ok-step-in-Step-clause-state
returns-in_ok-step-in-Step-clause-state c =
    rw c.in-Step.is
    (step_state c.args.machine.now c.rounds_facts-in-Step.new.system c.in_ok-step-in-Step.step c.in_ok-step-in-Step.ensures.rounds c.in_ok-step-in-Step.ensures.most)

pub returns-in_ok-step-in-Step-clause-facts : goal.returns-in_ok-step-in-Step-clause-facts
returns-in_ok-step-in-Step-clause-facts c =
    rw c.in-Step.is
    (step_facts c.args.machine.now c.rounds_facts-in-Step.new.system c.in_ok-step-in-Step.step c.in_ok-step-in-Step.ensures.rounds c.in_ok-step-in-Step.ensures.most)

pub returns-in_ok-step-in-Step-clause-quiet : goal.returns-in_ok-step-in-Step-clause-quiet
returns-in_ok-step-in-Step-clause-quiet c =
    rw c.in-Step.is
    (step_quiet c.args.machine.now c.rounds_facts-in-Step.new.system c.in_ok-step-in-Step.step c.in_ok-step-in-Step.ensures.rounds c.in_ok-step-in-Step.ensures.most)
