use Rattle.std.proofs.Common.{◌≡◌, ◌∙◌, ap, refl, sym, true}
use Rattle.machine.specs.Machine.{S}
use Rattle.ddt_timeline.specs.Stops.{round}
use Rattle.ddt_moves.specs.Replays.{is_ready, machine_in, to_come}
use Rattle.ddt_moves.proofs.ReplayLemmas.{fewer-left}
use Rattle.ddt_moves.proofs.VisitLemmas.{past-end, past-step}
use Rattle.ddt_moves.proofs.visits.see_past.Goals as goal

pub loop-counters-init : goal.loop-counters-init
loop-counters-init c = rw (c.in_ok-replay.ensures.to_come, c.in_ok-replay.ensures.machine) refl

pub loop-counters-smaller : goal.loop-counters-smaller
loop-counters-smaller c =
    let ready : is_ready c.go_before_step.new.self ≡ true = sym c.go_before_step.ensures.ready ∙ c.loop-counters-test.true in
    fewer-left (to_come c.step-ran.new.self) (to_come c.loop-counters.replay)
    (c.step-ran.ensures.made ready ∙ c.go_before_step.ensures.to_come)

pub loop-counters-preserved : goal.loop-counters-preserved
loop-counters-preserved c =
    let ready : is_ready c.go_before_step.new.self ≡ true = sym c.go_before_step.ensures.ready ∙ c.loop-counters-test.true in
    past-step (to_come c.loop-counters.replay) (to_come c.step-ran.new.self) (machine_in c.loop-counters.replay)
    (machine_in c.go_before_step.new.self) c.machine.result.now (machine_in c.step-ran.new.self) c.machine-in-loop-counters.result.now c.step-ran.result
    c.loop-counters.counters c.see_starts.new.counters c.see_rounds.new.counters _ c.loop-counters.invariant
    (c.step-ran.ensures.made ready ∙ c.go_before_step.ensures.to_come)
    c.go_before_step.ensures.machine c.machine.ensures c.see_starts.ensures (c.step-ran.ensures.machine ready) (c.step-ran.ensures.ran ready)
    c.machine-in-loop-counters.ensures c.see_rounds.ensures.seen

pub returns : goal.returns
returns c =
    past-end (to_come c.loop-counters.replay) (to_come c.go_before_step.new.self) (machine_in c.loop-counters.replay)
    (machine_in c.go_before_step.new.self) c.machine-2.result.now c.loop-counters.counters c.see_starts-2.new.counters _
    c.loop-counters.invariant c.go_before_step.ensures.to_come (c.go_before_step.ensures.end c.loop-counters-test.false)
    c.go_before_step.ensures.machine c.machine-2.ensures c.see_starts-2.ensures
